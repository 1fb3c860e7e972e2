use Rattle.std.proofs.Common.{◌≡◌, ◌+◌, ◌≤◌, length}
use Rattle.u_scope.specs.Counting.{behind_block}
use Rattle.u_scope.proofs.counting.in_loops_block.Given as goal

abbrev pub invariant-loop-node : goal.invariant-loop-node
invariant-loop-node l = (behind_block l.depth l.rest ≡ behind_block 0 l.nodes) × (l.depth + length l.rest ≤ length l.nodes)

abbrev pub decreases-loop-node : goal.decreases-loop-node
decreases-loop-node l = length l.rest
