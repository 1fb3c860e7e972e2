use Rattle.std.proofs.Common.{◌≡◌, ◌+◌, ◌≤◌, length}
use Rattle.u_scope.specs.Counting.{given}
use Rattle.u_scope.proofs.counting.given.Given as goal

abbrev pub invariant-loop-node : goal.invariant-loop-node
invariant-loop-node l = (given 0 l.nodes ≡ l.count + given l.depth l.rest) × (l.count + length l.rest ≤ length l.nodes) × (l.depth + length l.rest ≤ length l.nodes)

abbrev pub decreases-loop-node : goal.decreases-loop-node
decreases-loop-node l = length l.rest
