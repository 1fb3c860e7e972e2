use Rattle.std.proofs.Common.{◌∙◌, ap, subst}
use Rattle.u_check.specs.Jobs.{JobParts}
use Rattle.u_machine.specs.State.{State}
use Rattle.u_commands.specs.Runs.{RanTo}
use Rattle.u_commands.proofs.reporting.ran.Goals as goal

pub returns-in-Ok-clause-ok : goal.returns-in-Ok-clause-ok
returns-in-Ok-clause-ok g c =
    subst (λ (j : JobParts). RanTo j c.args.firings c.in-Ok.state c.run_on.new.machine) (ap (λ (m : State). m.job) c.in_ok-machine.ensures) c.in-Ok.ensures.ok

pub returns-in-Ok-clause-limit : goal.returns-in-Ok-clause-limit
returns-in-Ok-clause-limit g c = c.in-Ok.ensures.limit ∙ ap (λ (m : State). m.limit) c.in_ok-machine.ensures
