use Rattle.std.proofs.Common.{ℕ}
use Rattle.u_compile.specs.Trees.{IsAround}
use Rattle.u_compile.proofs.tree.Tree.around.Given as goal

abbrev pub invariant-outwards : goal.invariant-outwards
invariant-outwards l = (outer : ℕ) → IsAround l.self l.form l.other outer l.at → IsAround l.self l.form l.other outer l.number
