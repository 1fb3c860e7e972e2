use Rattle.std.proofs.Common.{◌≡◌, length, reverse}
use Rattle.u_scope.specs.Kinds.{without_trees}
use Rattle.u_scope.proofs.kinded.without_trees.Given as goal

abbrev pub invariant-loop-left : goal.invariant-loop-left
invariant-loop-left l = without_trees l.left (reverse l.rest) ≡ without_trees l.count (reverse l.nodes)

abbrev pub decreases-loop-left : goal.decreases-loop-left
decreases-loop-left l = length l.rest
