use Rattle.std.proofs.Common.{◌∙◌}
use Rattle.u_fleet.proofs.Reporting.{settled_published, of_ok}
use Rattle.u_fleet.proofs.report.take_published.Goals as goal

pub returns-in-Ok-Ok-clause-took : goal.returns-in-Ok-Ok-clause-took
returns-in-Ok-Ok-clause-took g c =
    settled_published _ _ c.take_lists-taken.new.replica.machine _ (c.take_lists-taken.ensures.gains.grows.job ∙ c.requires.job) (of_ok _ _ c.in-Ok-Ok.is-0 c.take_lists-taken.ensures.taken)
    c.settle-settled.ensures.applies c.holds.ensures.is.machine (of_ok _ _ c.in-Ok-Ok.is-1 c.settle-settled.ensures.ok) c.requires.runs
