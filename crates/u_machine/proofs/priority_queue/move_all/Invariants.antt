use Rattle.std.proofs.Common.{◌≡◌, ◌++◌, length}
use Rattle.u_machine.proofs.priority_queue.move_all.Given as goal

abbrev pub invariant-loop-least : goal.invariant-loop-least
invariant-loop-least g l = l.least ++ l.run.items ≡ l.fn.least ++ l.fn.run.items

abbrev pub decreases-loop-least : goal.decreases-loop-least
decreases-loop-least g l = length l.run.items
