use Rattle.std.proofs.Common.{subst, sym, All}
use Rattle.u_outlet.specs.Sound.{IsSound}
use Rattle.u_fleet.proofs.Soundness.{run_sound}
use Rattle.u_fleet.proofs.report.take_run.Goals as goal

pub take_sound-requires-clause-sound : goal.take_sound-requires-clause-sound
take_sound-requires-clause-sound g c = subst (λ fs. All (IsSound g.J.Named.job) fs) (sym c.as_slice.ensures) (run_sound _ _ c.requires.run)
