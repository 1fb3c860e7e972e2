-- What is known of names and constants, when more is known.
use Rattle.std.proofs.Common.{◌≡◌, ℕ, ◌+◌, ◌≤◌, inl, inr, sym, ap, ◌∙◌, subst, false, List, [], ◌∷◌, ◌++◌, length, Some, append_assoc}
use Rattle.std.specs.Prelude.{slice_get}
use Rattle.std.proofs.lemmas.List.{append-nil}
use Rattle.u_program.specs.declared.program.Constant.{Constant}
use Rattle.u_program.specs.declared.program.Kind.TheVariants.{Const}
use Rattle.u_compile.specs.declared.drawing.Scope.{Scope}
use Rattle.u_compile.specs.declared.naming.Binding.{Binding}
use Rattle.u_compile.specs.declared.naming.ConstantBinding.{ConstantBinding}
use Rattle.u_compile.specs.Graphs.{output}
use Rattle.u_compile.specs.Scoped.{IsOf}
use Rattle.u_compile.specs.Drawings.{DrawingParts, Grows, Gives, Comes, it, inside}
use Rattle.u_compile.specs.Namings.{KnownParts, a_constant, with_constant, IsNamed, AddsNamed, IsConstant, HasConstant, noted, made, Learns}
use Rattle.u_compile.proofs.Numbers.{at_within}
use Rattle.u_compile.proofs.DrawingLaws.{get_goes_on, kind_goes_on, are_fed_kept, grows_then}
use Rattle.u_compile.proofs.GateLaws.{of_append}
use Rattle.u_compile.proofs.ComesLaws.{named_grows}

-- from scope to scope
pub comes_then : (d : DrawingParts) (outer v at u s w : ℕ) → Comes d outer v at u → Comes d at u s w → Comes d outer v s w
comes_then d outer v at u s w a it = a
comes_then d outer v at u s w a (inside t x y z is enters from) = inside s x y w is enters (comes_then d outer v at u x.around y a from)

pub constant_grows : (d e : DrawingParts) → Grows d e → (bs : List Binding) (scope : ℕ) (k : Constant) (v : ℕ) → IsConstant d bs scope k v → IsConstant e bs scope k v
constant_grows d e g bs scope k v is =
    let s = is.stands in
    let there : is.statement ≤ length d.statements = (at_within d.statements is.statement s.0 s.1).1 in
    record {
      within = is.within;
      is = get_goes_on d.scopes e.scopes scope is.within g.scopes is.is;
      trigger = is.trigger;
      clock = named_grows d e bs scope is.within.clock is.trigger g is.clock;
      statement = is.statement;
      stands = kind_goes_on d.statements e.statements is.statement (Const k) g.statements is.stands;
      fed = are_fed_kept d.links e.links d.values e.values is.statement 1 (is.trigger ∷ []) g.values (λ port. g.fed is.statement port there) is.fed;
      gives = get_goes_on d.values e.values v (output is.statement false ∷ []) g.values is.gives;
    }

pub has_grows : (d e : DrawingParts) → Grows d e → (k : KnownParts) (scope : ℕ) (c : Constant) (v : ℕ) → HasConstant d k scope c v → HasConstant e k scope c v
has_grows d e g k scope c v (noted is) = noted is
has_grows d e g k scope c v (made is) = made (constant_grows d e g k.bindings scope c v is)

pub learns_none : (d : DrawingParts) (k : KnownParts) → Learns d k k
learns_none d k = record {
  bindings = [];
  constants = [];
  are = ap (λ (bs : List Binding). record k { bindings = bs }) (sym (append-nil k.bindings)) ∙ ap (λ (cs : List ConstantBinding). record k { bindings = k.bindings ++ []; constants = cs }) (sym (append-nil k.constants));
  named = λ b h. absurd h;
  made = λ c h. absurd h;
}

pub learns_grows : (d e : DrawingParts) → Grows d e → (k l : KnownParts) → Learns d k l → Learns e k l
learns_grows d e g k l learns = record {
  bindings = learns.bindings;
  constants = learns.constants;
  are = learns.are;
  named = λ b h. named_grows d e k.bindings b.scope b.name b.value g (learns.named b h);
  made = λ c h. constant_grows d e g k.bindings c.scope c.constant c.value (learns.made c h);
}

pub learns_named : (d : DrawingParts) (k l : KnownParts) (name : ℕ) → AddsNamed d k l name → Learns d k l
learns_named d k l name adds = record {
  bindings = adds.more;
  constants = [];
  are = adds.are ∙ ap (λ (cs : List ConstantBinding). record k { bindings = k.bindings ++ adds.more; constants = cs }) (sym (append-nil k.constants));
  named = λ b h. subst (λ (n : ℕ). IsNamed d k.bindings b.scope n b.value) (sym (adds.each b h).0) (adds.each b h).1;
  made = λ c h. absurd h;
}

-- A name's value comes from what was bound before, also where a binding is used that was added.
pub named_before : (d : DrawingParts) (k l : KnownParts) → Learns d k l → (scope name v : ℕ) → IsNamed d l.bindings scope name v → IsNamed d k.bindings scope name v
named_before d k l learns scope name v is =
    let there : IsOf (k.bindings ++ learns.bindings) is.binding = subst (λ (x : KnownParts). IsOf x.bindings is.binding) learns.are is.is in
    elim (of_append k.bindings learns.bindings is.binding there) [
      | inl i ↦ record { binding = is.binding; is = i; named = is.named; comes = is.comes }
      | inr i ↦ through (learns.named is.binding i)
    ]
  where
    through : IsNamed d k.bindings is.binding.scope is.binding.name is.binding.value → IsNamed d k.bindings scope name v
    through from = record {
      binding = from.binding;
      is = from.is;
      named = from.named ∙ is.named;
      comes = comes_then d from.binding.scope from.binding.value is.binding.scope is.binding.value scope v from.comes is.comes;
    }

pub constant_before : (d : DrawingParts) (k l : KnownParts) → Learns d k l → (scope : ℕ) (c : Constant) (v : ℕ) → IsConstant d l.bindings scope c v → IsConstant d k.bindings scope c v
constant_before d k l learns scope c v is = record {
  within = is.within;
  is = is.is;
  trigger = is.trigger;
  clock = named_before d k l learns scope is.within.clock is.trigger is.clock;
  statement = is.statement;
  stands = is.stands;
  fed = is.fed;
  gives = is.gives;
}

pub has_before : (d : DrawingParts) (k l : KnownParts) → Learns d k l → (scope : ℕ) (c : Constant) (v : ℕ) → HasConstant d l scope c v → HasConstant d k scope c v
has_before d k l learns scope c v (made is) = made (constant_before d k l learns scope c v is)
has_before d k l learns scope c v (noted is) =
    elim (of_append k.constants learns.constants (a_constant scope c v) (subst (λ (x : KnownParts). IsOf x.constants (a_constant scope c v)) learns.are is)) [
      | inl i ↦ noted i
      | inr i ↦ made (learns.made (a_constant scope c v) i)
    ]

pub learns_then : (d e : DrawingParts) → Grows d e → (k l m : KnownParts) → Learns d k l → Learns e l m → Learns e k m
unfolding learns_grows
learns_then d e g k l m a b =
    let first = learns_grows d e g k l a in
    record {
      bindings = a.bindings ++ b.bindings;
      constants = a.constants ++ b.constants;
      are = b.are ∙ (ap (λ (x : KnownParts). record x { bindings = x.bindings ++ b.bindings; constants = x.constants ++ b.constants }) a.are ∙ (ap (λ (bs : List Binding). record k { bindings = bs; constants = (k.constants ++ a.constants) ++ b.constants }) (append_assoc k.bindings a.bindings b.bindings) ∙ ap (λ (cs : List ConstantBinding). record k { bindings = k.bindings ++ (a.bindings ++ b.bindings); constants = cs }) (append_assoc k.constants a.constants b.constants)));
      named = λ x h. elim (of_append a.bindings b.bindings x h) [ inl i ↦ first.named x i | inr i ↦ named_before e k l first x.scope x.name x.value (b.named x i) ];
      made = λ x h. elim (of_append a.constants b.constants x h) [ inl i ↦ first.made x i | inr i ↦ constant_before e k l first x.scope x.constant x.value (b.made x i) ];
    }

-- a `const` was added to which the clock's value leads
pub constant_given : (d b e : DrawingParts) (k l : KnownParts) (scope : ℕ) (at : Scope) (c : Constant) (t v : ℕ) → slice_get d.scopes scope ≡ Some at → Grows d b → IsNamed b k.bindings scope at.clock t → Gives b e (Const c) (t ∷ []) v → IsConstant e k.bindings scope c v
constant_given d b e k l scope at c t v is g named gives = record {
  within = at;
  is = get_goes_on d.scopes e.scopes scope at (grows_then d b e g gives.adds.grows).scopes is;
  trigger = t;
  clock = named_grows b e k.bindings scope at.clock t gives.adds.grows named;
  statement = length b.statements + 1;
  stands = gives.adds.stands;
  fed = gives.adds.fed;
  gives = gives.value;
}

-- and is noted
pub learns_constant : (b e : DrawingParts) (k l m : KnownParts) (scope : ℕ) (c : Constant) (v name : ℕ) → Grows b e → AddsNamed b k l name → IsConstant e k.bindings scope c v → m ≡ with_constant l (a_constant scope c v) → Learns e k m
learns_constant b e k l m scope c v name g adds is same =
    let first = learns_grows b e g k l (learns_named b k l name adds) in
    record {
      bindings = first.bindings;
      constants = first.constants ++ (a_constant scope c v ∷ []);
      are = same ∙ (ap (λ (x : KnownParts). with_constant x (a_constant scope c v)) first.are ∙ ap (λ (cs : List ConstantBinding). record k { bindings = k.bindings ++ first.bindings; constants = cs }) (append_assoc k.constants first.constants (a_constant scope c v ∷ [])));
      named = first.named;
      made = λ x h. elim (of_append first.constants (a_constant scope c v ∷ []) x h) [ inl i ↦ first.made x i | inr i ↦ last x i ];
    }
  where
    last : (x : ConstantBinding) → IsOf (a_constant scope c v ∷ []) x → IsConstant e k.bindings x.scope x.constant x.value
    last x (inl q) = subst (λ (y : ConstantBinding). IsConstant e k.bindings y.scope y.constant y.value) q is
    last x (inr f) = absurd f
