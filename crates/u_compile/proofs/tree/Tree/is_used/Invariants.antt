use Rattle.std.proofs.Common.{◌≡◌, ℕ, ◌<◌, ◌≤◌, Some}
use Rattle.std.specs.Prelude.{slice_get}
use Rattle.u_scope.specs.declared.checked.Meaning.TheVariants.{Name}
use Rattle.u_compile.proofs.tree.Tree.is_used.Given as goal

abbrev pub invariant-loop-at : goal.invariant-loop-at
invariant-loop-at l = (node : ℕ) → l.first ≤ node → node < l.at → slice_get l.self.meanings.now node ≡ Some (Name l.name) → ⊥
