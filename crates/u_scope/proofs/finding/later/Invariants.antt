use Rattle.std.proofs.Common.{◌≡◌, length}
use Rattle.u_scope.specs.Finding.{later}
use Rattle.u_scope.proofs.finding.later.Given as goal

abbrev pub invariant-loop-node : goal.invariant-loop-node
invariant-loop-node l = later l.tokens l.name l.rest ≡ later l.tokens l.name l.nodes

abbrev pub decreases-loop-node : goal.decreases-loop-node
decreases-loop-node l = length l.rest
