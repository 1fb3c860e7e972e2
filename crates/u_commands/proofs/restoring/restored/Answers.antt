use Rattle.u_commands.proofs.Restored.{restored_as, restored_not}
use Rattle.u_commands.proofs.restoring.restored.Goals as goal

pub returns-in-Ok : goal.returns-in-Ok
returns-in-Ok g c = restored_as c.args.job.now c.args.checkpoint.now c.in-Ok.found.1 c.in-Ok.found.0 c.in-Ok.ensures.answer

pub returns-in-Err : goal.returns-in-Err
returns-in-Err g c = rw c.fault_in.ensures (restored_not c.args.job.now c.args.checkpoint.now c.in-Err.error c.in-Err.ensures.answer)
