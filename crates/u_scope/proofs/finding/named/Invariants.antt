use Rattle.std.proofs.Common.{◌≡◌, length}
use Rattle.u_scope.specs.Finding.{named}
use Rattle.u_scope.proofs.finding.named.Given as goal

abbrev pub invariant-loop-entry : goal.invariant-loop-entry
invariant-loop-entry l = named l.tokens l.name l.rest ≡ named l.tokens l.name l.entries

abbrev pub decreases-loop-entry : goal.decreases-loop-entry
decreases-loop-entry l = length l.rest
