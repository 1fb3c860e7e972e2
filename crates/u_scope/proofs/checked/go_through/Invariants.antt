use Rattle.std.proofs.Common.{◌≡◌, ◌≤◌, ◌-◌, None, Ok, length, map, reverse, take}
use Rattle.u_scope.specs.Entries.{scopes_at}
use Rattle.u_scope.specs.Values.{IsLeast}
use Rattle.u_scope.specs.Verdicts.{breach_at, verdicts_with}
use Rattle.u_scope.proofs.checked.go_through.Given as goal

abbrev pub invariant-loop-number : goal.invariant-loop-number
invariant-loop-number l = record { inside : l.number ≤ length l.nodes; scopes : reverse l.walk.scopes.items ≡ scopes_at (reverse (take l.number l.nodes)); least : IsLeast (breach_at l.tokens l.procedures l.nodes) l.number l.walk.first; meanings : l.walk.first ≡ None → map Ok l.walk.meanings.items ≡ verdicts_with l.tokens l.procedures l.nodes l.number }

abbrev pub decreases-loop-number : goal.decreases-loop-number
decreases-loop-number l = length l.nodes - l.number
