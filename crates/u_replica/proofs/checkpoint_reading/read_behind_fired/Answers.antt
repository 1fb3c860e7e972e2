use Rattle.u_base.specs.Pieces.{pieces}
use Rattle.u_replica.proofs.checkpoint_reading.read_behind_fired.Goals as goal

pub returns-in-Ok : goal.returns-in-Ok
returns-in-Ok g c = c.read_fired.ensures c.args.version c.in-Ok.field-0-0 (pieces 10 c.args.bytes.now) c.in-Ok.ensures.0 c.in-Ok.ensures.1

pub returns-in-Err : goal.returns-in-Err
returns-in-Err g c = c.behind_nothing.ensures c.args.machine.now c.args.version (pieces 10 c.args.bytes.now) c.in-Err.ensures
