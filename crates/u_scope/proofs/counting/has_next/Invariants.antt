use Rattle.std.proofs.Common.{◌≡◌, false, ◌+◌, ◌≤◌, length}
use Rattle.u_scope.specs.Counting.{has_next}
use Rattle.u_scope.proofs.counting.has_next.Given as goal

abbrev pub invariant-loop-node : goal.invariant-loop-node
invariant-loop-node l = (has_next l.tokens l.name l.depth l.stands l.rest ≡ has_next l.tokens l.name 0 false l.nodes) × (l.depth + length l.rest ≤ length l.nodes)

abbrev pub decreases-loop-node : goal.decreases-loop-node
decreases-loop-node l = length l.rest
