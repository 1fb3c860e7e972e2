use Rattle.std.proofs.Common.{◌≡◌, length, reverse}
use Rattle.u_scope.specs.Finding.{next_before}
use Rattle.u_scope.proofs.finding.next_before.Given as goal

abbrev pub invariant-loop-entry : goal.invariant-loop-entry
invariant-loop-entry l = next_before l.tokens l.name (reverse l.rest) ≡ next_before l.tokens l.name (reverse l.scopes)

abbrev pub decreases-loop-entry : goal.decreases-loop-entry
decreases-loop-entry l = length l.rest
