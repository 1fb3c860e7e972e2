use Rattle.std.proofs.Common.{◌≡◌, length, reverse}
use Rattle.u_scope.specs.Finding.{earlier}
use Rattle.u_scope.proofs.finding.earlier.Given as goal

abbrev pub invariant-loop-node : goal.invariant-loop-node
invariant-loop-node l = earlier l.tokens l.name (reverse l.rest) ≡ earlier l.tokens l.name (reverse l.nodes)

abbrev pub decreases-loop-node : goal.decreases-loop-node
decreases-loop-node l = length l.rest
