use Rattle.std.proofs.Common.{◌≡◌, ◌+◌, ◌≤◌, length}
use Rattle.u_scope.specs.Values.{inside_of, is_wanted}
use Rattle.u_scope.proofs.values.is_wanted.Given as goal

abbrev pub invariant-loop-node : goal.invariant-loop-node
invariant-loop-node l = (is_wanted l.at l.rest ≡ is_wanted l.fn.reached l.nodes) × (inside_of l.at + length l.rest ≤ length l.nodes)

abbrev pub decreases-loop-node : goal.decreases-loop-node
decreases-loop-node l = length l.rest
