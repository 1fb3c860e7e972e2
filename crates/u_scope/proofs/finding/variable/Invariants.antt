use Rattle.std.proofs.Common.{◌≡◌, length, reverse, false}
use Rattle.u_scope.specs.Finding.{variable}
use Rattle.u_scope.proofs.finding.variable.Given as goal

abbrev pub invariant-loop-entry : goal.invariant-loop-entry
invariant-loop-entry l = variable l.tokens l.name l.inside (reverse l.rest) ≡ variable l.tokens l.name false (reverse l.scopes)

abbrev pub decreases-loop-entry : goal.decreases-loop-entry
decreases-loop-entry l = length l.rest
