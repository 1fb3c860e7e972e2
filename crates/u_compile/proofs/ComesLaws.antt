-- What comes from what, when procedures grow.
use Rattle.std.proofs.Common.{◌≡◌, ℕ, ◌+◌, ◌≤◌, inl, inr, refl, sym, ap, ◌∙◌, subst, Bool, false, not, List, [], ◌∷◌, ◌++◌, length, Some, append_assoc}
use Rattle.std.specs.Prelude.{slice_get}
use Rattle.std.proofs.lemmas.List.{append-nil}
use Rattle.u_program.specs.declared.program.Kind.TheVariants.{Enter}
use Rattle.u_compile.specs.declared.graph.Output.{Output}
use Rattle.u_compile.specs.declared.drawing.Scope.{Scope}
use Rattle.u_compile.specs.declared.drawing.Way.{Way}
use Rattle.u_compile.specs.declared.drawing.Way.TheVariants.{Side, Turn}
use Rattle.u_compile.specs.declared.naming.Binding.{Binding}
use Rattle.u_compile.specs.Graphs.{output}
use Rattle.u_compile.specs.Scoped.{IsOf}
use Rattle.u_compile.specs.Drawings.{DrawingParts, Grows, Gives, IsGated, IsEntered, Enters, side, turn, Comes, it, inside, a_gate}
use Rattle.u_compile.specs.Namings.{KnownParts, a_binding, with_binding, IsRightAround, IsNamed, AddsNamed, Brings}
use Rattle.u_compile.proofs.Numbers.{at_within}
use Rattle.u_compile.proofs.GateLaws.{of_append}
use Rattle.u_compile.proofs.DrawingLaws.{get_goes_on, kind_goes_on, fed_by_kept, gate_kept}

pub gated_grows : (d e : DrawingParts) → Grows d e → (c : Output) (on : Bool) (v w : ℕ) → IsGated d c on v w → IsGated e c on v w
gated_grows d e g c on v w is =
    let s = is.gate.switch in
    let there : is.switch ≤ length d.statements = (at_within d.statements is.switch s.0 s.1).1 in
    record {
      switch = is.switch;
      gate = gate_kept d.statements e.statements d.links e.links d.values e.values (a_gate c v is.switch) g.statements g.values (λ port. g.fed is.switch port there) is.gate;
      sends = get_goes_on d.values e.values w (output is.switch (not on) ∷ []) g.values is.sends;
    }

pub entered_grows : (d e : DrawingParts) → Grows d e → (loop v w : ℕ) → IsEntered d loop v w → IsEntered e loop v w
entered_grows d e g loop v w is =
    let s = is.stands in
    let there : is.enter ≤ length d.statements = (at_within d.statements is.enter s.0 s.1).1 in
    record {
      enter = is.enter;
      stands = kind_goes_on d.statements e.statements is.enter (Enter loop) g.statements is.stands;
      fed = fed_by_kept d.links e.links d.values e.values is.enter 1 v g.values (g.fed is.enter 1 there) is.fed;
      sends = get_goes_on d.values e.values w (output is.enter false ∷ []) g.values is.sends;
    }

pub enters_grows : (d e : DrawingParts) → Grows d e → (way : Way) (v w : ℕ) → Enters d way v w → Enters e way v w
enters_grows d e g way v w (side c on q is) = side c on q (gated_grows d e g c on v w is)
enters_grows d e g way v w (turn loop q is) = turn loop q (entered_grows d e g loop v w is)

-- what a value was in a scope it is there still
pub comes_grows : (d e : DrawingParts) → Grows d e → (outer v s w : ℕ) → Comes d outer v s w → Comes e outer v s w
comes_grows d e g outer v s w it = it
comes_grows d e g outer v s w (inside t x u y at is from) = inside s x u w (get_goes_on d.scopes e.scopes s x g.scopes at) (enters_grows d e g x.way u w is) (comes_grows d e g outer v x.around u from)

pub brings_gated : (d e : DrawingParts) (scope : ℕ) (x : Scope) (c : Output) (on : Bool) (v w : ℕ) → slice_get d.scopes scope ≡ Some x → x.way ≡ Side c on → Grows d e → IsGated e c on v w → Brings d e scope v w
brings_gated d e scope x c on v w at way g is = record { grows = g; into = x; is = get_goes_on d.scopes e.scopes scope x g.scopes at; enters = side c on way is }

pub brings_entered : (d e : DrawingParts) (scope : ℕ) (x : Scope) (loop v w : ℕ) → slice_get d.scopes scope ≡ Some x → x.way ≡ Turn loop → Gives d e (Enter loop) (v ∷ []) w → Brings d e scope v w
brings_entered d e scope x loop v w at way is =
    let entry : IsEntered e loop v w = record { enter = length d.statements + 1; stands = is.adds.stands; fed = is.adds.fed.0; sends = is.value } in
    record { grows = is.adds.grows; into = x; is = get_goes_on d.scopes e.scopes scope x is.adds.grows.scopes at; enters = turn loop way entry }

pub named_grows : (d e : DrawingParts) (bs : List Binding) (scope name v : ℕ) → Grows d e → IsNamed d bs scope name v → IsNamed e bs scope name v
named_grows d e bs scope name v g is = record {
  binding = is.binding;
  is = is.is;
  named = is.named;
  comes = comes_grows d e g is.binding.scope is.binding.value scope v is.comes;
}

-- what is brought into the scope that is right inside
pub named_then : (d e : DrawingParts) (bs : List Binding) (at scope name v w : ℕ) → IsNamed d bs at name v → IsRightAround d.scopes at scope → Brings d e scope v w → IsNamed e bs scope name w
named_then d e bs at scope name v w is inner brings =
    let now = named_grows d e bs at name v brings.grows is in
    let same : brings.into ≡ inner.0 = some_is _ _ (sym brings.is ∙ get_goes_on d.scopes e.scopes scope inner.0 brings.grows.scopes inner.1) in
    let around : brings.into.around ≡ at = ap (λ (x : Scope). x.around) same ∙ inner.2 in
    record {
      binding = now.binding;
      is = now.is;
      named = now.named;
      comes = inside scope brings.into v w brings.is brings.enters (subst (λ (s : ℕ). Comes e now.binding.scope now.binding.value s v) (sym around) now.comes);
    }
  where
    some_is : (x y : Scope) → Some x ≡ Some y → x ≡ y
    some_is x y e = cc

pub named_first : (d : DrawingParts) (bs : List Binding) (at name v : ℕ) → IsOf bs (a_binding at name v) → IsNamed d bs at name v
named_first d bs at name v is = record { binding = a_binding at name v; is = is; named = refl; comes = it }

pub adds_none : (d : DrawingParts) (k : KnownParts) (name : ℕ) → AddsNamed d k k name
adds_none d k name = record { more = []; are = ap (λ (bs : List Binding). record k { bindings = bs }) (sym (append-nil k.bindings)); each = λ b h. absurd h }

pub adds_then : (d e : DrawingParts) (k l m : KnownParts) (at name w : ℕ) → AddsNamed d k l name → Grows d e → IsNamed e k.bindings at name w → m ≡ with_binding l (a_binding at name w) → AddsNamed e k m name
adds_then d e k l m at name w adds grows next is = record {
  more = adds.more ++ (a_binding at name w ∷ []);
  are = is ∙ (ap (λ (x : KnownParts). with_binding x (a_binding at name w)) adds.are ∙ ap (λ (bs : List Binding). record k { bindings = bs }) (append_assoc k.bindings adds.more (a_binding at name w ∷ [])));
  each = λ b h. elim (of_append adds.more (a_binding at name w ∷ []) b h) [
    | inl i ↦ ((adds.each b i).0, named_grows d e k.bindings b.scope name b.value grows (adds.each b i).1)
    | inr i ↦ last b i
  ];
}
  where
    last : (b : Binding) → IsOf (a_binding at name w ∷ []) b → (b.name ≡ name) × IsNamed e k.bindings b.scope name b.value
    last b (inl q) = (sym (ap (λ (x : Binding). x.name) q), subst (λ (x : Binding). IsNamed e k.bindings x.scope name x.value) q next)
    last b (inr f) = absurd f
