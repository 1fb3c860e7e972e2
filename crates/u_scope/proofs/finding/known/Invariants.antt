use Rattle.std.proofs.Common.{◌≡◌, length, reverse}
use Rattle.u_scope.specs.Finding.{known}
use Rattle.u_scope.proofs.finding.known.Given as goal

abbrev pub invariant-loop-entry : goal.invariant-loop-entry
invariant-loop-entry l = known l.tokens l.name l.seen (reverse l.rest) ≡ known l.tokens l.name l.variables (reverse l.scopes)

abbrev pub decreases-loop-entry : goal.decreases-loop-entry
decreases-loop-entry l = length l.rest
