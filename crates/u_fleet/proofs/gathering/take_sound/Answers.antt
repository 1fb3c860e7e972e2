use Rattle.std.proofs.Common.{sym, subst, All}
use Rattle.u_outlet.specs.Sound.{IsSound}
use Rattle.u_fleet.proofs.Soundness.{answer_gains, answer_refused}
use Rattle.u_fleet.proofs.gathering.take_sound.Goals as goal

pub returns-clause-gains : goal.returns-clause-gains
returns-clause-gains g c = answer_gains _ _ _ _ (subst (λ job. All (IsSound job) c.args.firings.now) (sym c.requires.job) c.requires.sound) c.take_all.ensures.answer

pub returns-clause-refused : goal.returns-clause-refused
returns-clause-refused g c =
    answer_refused _ _ _ _ c.holds.ensures.is.machine (subst (λ job. All (IsSound job) c.args.firings.now) (sym c.requires.job) c.requires.sound) c.take_all.ensures.answer
