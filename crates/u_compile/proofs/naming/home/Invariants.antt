use Rattle.std.proofs.Common.{ℕ}
use Rattle.u_compile.specs.Namings.{IsWithin}
use Rattle.u_compile.proofs.naming.home.Given as goal

abbrev pub invariant-outwards : goal.invariant-outwards
invariant-outwards l = (outer : ℕ) → IsWithin l.drawing.scopes outer l.at → IsWithin l.drawing.scopes outer l.scope
