use Rattle.u_compile.specs.Drawings.{Grows}
use Rattle.u_compile.specs.Namings.{AddsNamed, IsNamed, known}
use Rattle.u_compile.proofs.naming.ScopedNames.value_of.Given as goal

abbrev pub invariant-inwards : goal.invariant-inwards
invariant-inwards l = record {
  grows : Grows l.fn.drawing l.drawing;
  named : IsNamed l.drawing l.fn.self.bindings.items l.at l.name l.value;
  adds : AddsNamed l.drawing (known l.fn.self) (known l.self) l.name;
}
