use Rattle.u_share.proofs.Taken.{firing_taken, firing_of_another, firing_full}
use Rattle.u_share.proofs.taking.take_firing.Goals as goal

pub returns-in-Ok : goal.returns-in-Ok
returns-in-Ok c =
    firing_taken c.args.machine.now c.take.new.self c.args.firing.now c.in-Ok.field-0 c.holds.ensures.is c.in-Ok.ensures

pub returns-in-Err-NotAFiring : goal.returns-in-Err-NotAFiring
returns-in-Err-NotAFiring c =
    firing_of_another c.args.machine.now c.take.new.self c.args.firing.now (rw c.in-Err-NotAFiring.field-0-is at c.in-Err-NotAFiring.ensures)

pub returns-in-Err-Full : goal.returns-in-Err-Full
returns-in-Err-Full c =
    firing_full c.args.machine.now c.take.new.self c.args.firing.now (rw c.in-Err-Full.field-0-is at c.in-Err-Full.ensures)
