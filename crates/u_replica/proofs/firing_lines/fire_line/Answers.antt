use Rattle.std.proofs.Common.{rules}
use Rattle.u_replica.proofs.FiredLaws.{fires_line}
use Rattle.u_replica.proofs.firing_lines.fire_line.Goals as goal

pub returns-in-Ok-Fired-clause-fires : goal.returns-in-Ok-Fired-clause-fires
returns-in-Ok-Fired-clause-fires c =
    fires_line c.args.machine.now c.fire.new.self c.args.bytes.now c.in-Line.line.now c.in-Line.others.now c.in-Some.firing.now c.in-Ok-Fired.field-0-0 c.in-Line.ensures.0
    (c.in_range.ensures, c.in_ok-is_there.ensures.0 (search rules)) c.in-Some.ensures (rw c.in-Ok-Fired.field-0-is at c.in-Ok-Fired.ensures)
