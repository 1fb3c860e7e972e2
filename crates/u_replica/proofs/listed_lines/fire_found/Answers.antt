use Rattle.std.proofs.Common.{rules}
use Rattle.u_replica.specs.ListedLines.{texts}
use Rattle.u_replica.proofs.ListedLaws.{fires_listed}
use Rattle.u_replica.proofs.listed_lines.fire_found.Goals as goal

pub returns-in-Ok-Fired-clause-fires : goal.returns-in-Ok-Fired-clause-fires
returns-in-Ok-Fired-clause-fires c =
    fires_listed c.args.machine.now c.fire.new.self (texts c.args.listed.now.lines.items) c.in-Some.firing.now c.in-Ok-Fired.field-0-0
    (c.in_ok-find.ensures.found (search rules)) c.in_range.ensures c.in-Some.ensures (rw c.in-Ok-Fired.field-0-is at c.in-Ok-Fired.ensures)
