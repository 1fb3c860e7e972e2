use Rattle.std.proofs.Common.{ap, ◌∙◌}
use Rattle.u_machine.specs.State.{State}
use Rattle.u_fleet.proofs.Soundness.{part_sound}
use Rattle.u_fleet.proofs.sending.send.Goals as goal

pub put-requires : goal.put-requires
put-requires g c = part_sound _ _ _ _ _ c.holds.ensures.is.machine c.requires.job (c.applied-log.ensures ∙ ap (λ (m : State). m.log) c.machine.ensures)
