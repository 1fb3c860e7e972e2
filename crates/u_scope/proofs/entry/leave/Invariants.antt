use Rattle.std.proofs.Common.{◌≡◌, length, reverse}
use Rattle.u_scope.specs.Entries.{left_behind}
use Rattle.u_scope.proofs.entry.leave.Given as goal

abbrev pub invariant-loop-entry : goal.invariant-loop-entry
invariant-loop-entry l = left_behind (reverse l.scopes.items) ≡ left_behind (reverse l.initial.scopes.items)

abbrev pub decreases-loop-entry : goal.decreases-loop-entry
decreases-loop-entry l = length l.scopes.items
