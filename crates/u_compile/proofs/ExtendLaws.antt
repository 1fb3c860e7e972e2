-- What stays when a procedure goes on: what leads where, what comes from what, and what is bound.
use Rattle.std.proofs.Common.{◌≡◌, ℕ, ◌+◌, ◌≤◌, arith, inl, inr, refl, sym, ◌∙◌, subst, Bool, false, not, List, [], ◌∷◌, ◌++◌, length, Some}
use Rattle.std.specs.Prelude.{slice_get}
use Rattle.u_program.specs.declared.program.Constant.{Constant}
use Rattle.u_program.specs.declared.program.Kind.{Kind}
use Rattle.u_program.specs.declared.program.Kind.TheVariants.{Const, Enter, Last, Leave}
use Rattle.u_compile.specs.declared.graph.Output.{Output}
use Rattle.u_compile.specs.declared.drawing.Carried.{Carried}
use Rattle.u_compile.specs.declared.drawing.Scope.{Scope}
use Rattle.u_compile.specs.declared.drawing.Way.{Way}
use Rattle.u_compile.specs.declared.naming.Binding.{Binding}
use Rattle.u_compile.specs.Graphs.{output}
use Rattle.u_compile.specs.Scoped.{IsOf}
use Rattle.u_compile.specs.Drawings.{DrawingParts, feeders, GoesOn as Continues, Grows, IsOfKind, IsFedBy, IsGated, IsEntered, Enters, Comes, it, inside, Leaves, a_gate}
use Rattle.u_compile.specs.Namings.{IsNamed, IsConstant}
use Rattle.u_compile.specs.Uses.{GivesOne, IsLeft, IsInside}
use Rattle.u_compile.proofs.Numbers.{at_within}
use Rattle.u_compile.proofs.DrawingLaws.{get_goes_on, kind_goes_on, fed_by_kept, gate_kept, are_fed_kept, on_length, on_self, on_then}

-- Statements, links, scopes and values are only added, and what led to the ports of the statements that were there leads
-- to them as before.
pub record Extends (d e : DrawingParts) : Type 0 where
  pub statements : Continues d.statements e.statements
  pub links : Continues d.links e.links
  pub scopes : Continues d.scopes e.scopes
  pub values : Continues d.values e.values
  pub fed : (n port : ℕ) → n ≤ length d.statements → feeders n port e.links ≡ feeders n port d.links

pub extends_grown : (d e : DrawingParts) → Grows d e → Extends d e
extends_grown d e g = record { statements = g.statements; links = g.links; scopes = g.scopes; values = g.values; fed = g.fed }

pub extends_carried : (d : DrawingParts) (cs : List Carried) → Extends d (record d { carried = cs })
extends_carried d cs = record { statements = on_self d.statements; links = on_self d.links; scopes = on_self d.scopes; values = on_self d.values; fed = λ n port h. refl }

pub extends_then : (a b c : DrawingParts) → Extends a b → Extends b c → Extends a c
extends_then a b c f g = record {
  statements = on_then a.statements b.statements c.statements f.statements g.statements;
  links = on_then a.links b.links c.links f.links g.links;
  scopes = on_then a.scopes b.scopes c.scopes f.scopes g.scopes;
  values = on_then a.values b.values c.values f.values g.values;
  fed = λ n port h. g.fed n port (omega (arith, h, on_length a.statements b.statements f.statements)) ∙ f.fed n port h;
}

there : (d : DrawingParts) (n : ℕ) (k : Kind) → IsOfKind d.statements n k → n ≤ length d.statements
there d n k is = (at_within d.statements n is.0 is.1).1

module _ (d e : DrawingParts) (g : Extends d e) where
  pub value_extends : (v : ℕ) (os : List Output) → slice_get d.values v ≡ Some os → slice_get e.values v ≡ Some os
  value_extends v os is = get_goes_on d.values e.values v os g.values is

  pub scope_extends : (s : ℕ) (x : Scope) → slice_get d.scopes s ≡ Some x → slice_get e.scopes s ≡ Some x
  scope_extends s x is = get_goes_on d.scopes e.scopes s x g.scopes is

  pub stands_extends : (n : ℕ) (k : Kind) → IsOfKind d.statements n k → IsOfKind e.statements n k
  stands_extends n k is = kind_goes_on d.statements e.statements n k g.statements is

  pub fed_extends : (n port v : ℕ) → n ≤ length d.statements → IsFedBy d.links d.values n port v → IsFedBy e.links e.values n port v
  fed_extends n port v h fed = fed_by_kept d.links e.links d.values e.values n port v g.values (g.fed n port h) fed

  gated_extends : (c : Output) (on : Bool) (v w : ℕ) → IsGated d c on v w → IsGated e c on v w
  gated_extends c on v w is = record {
    switch = is.switch;
    gate = gate_kept d.statements e.statements d.links e.links d.values e.values (a_gate c v is.switch) g.statements g.values (λ port. g.fed is.switch port (there d is.switch _ is.gate.switch)) is.gate;
    sends = value_extends w (output is.switch (not on) ∷ []) is.sends;
  }

  pub entered_extends : (loop v w : ℕ) → IsEntered d loop v w → IsEntered e loop v w
  entered_extends loop v w is = record {
    enter = is.enter;
    stands = stands_extends is.enter (Enter loop) is.stands;
    fed = fed_extends is.enter 1 v (there d is.enter (Enter loop) is.stands) is.fed;
    sends = value_extends w (output is.enter false ∷ []) is.sends;
  }

  enters_extends : (way : Way) (v w : ℕ) → Enters d way v w → Enters e way v w
  enters_extends way v w (Enters.side c on q is) = Enters.side c on q (gated_extends c on v w is)
  enters_extends way v w (Enters.turn loop q is) = Enters.turn loop q (entered_extends loop v w is)

  -- what a value was in a scope it is there still
  pub comes_extends : (outer v s w : ℕ) → Comes d outer v s w → Comes e outer v s w
  comes_extends outer v s w it = it
  comes_extends outer v s w (inside t x u y at is from) = inside s x u w (scope_extends s x at) (enters_extends x.way u w is) (comes_extends outer v x.around u from)

  pub named_extends : (bs : List Binding) (scope name v : ℕ) → IsNamed d bs scope name v → IsNamed e bs scope name v
  named_extends bs scope name v is = record { binding = is.binding; is = is.is; named = is.named; comes = comes_extends is.binding.scope is.binding.value scope v is.comes }

  pub constant_extends : (bs : List Binding) (scope : ℕ) (k : Constant) (v : ℕ) → IsConstant d bs scope k v → IsConstant e bs scope k v
  constant_extends bs scope k v is = record {
    within = is.within;
    is = scope_extends scope is.within is.is;
    trigger = is.trigger;
    clock = named_extends bs scope is.within.clock is.trigger is.clock;
    statement = is.statement;
    stands = stands_extends is.statement (Const k) is.stands;
    fed = are_fed_kept d.links e.links d.values e.values is.statement 1 (is.trigger ∷ []) g.values (λ port. g.fed is.statement port (there d is.statement (Const k) is.stands)) is.fed;
    gives = value_extends v (output is.statement false ∷ []) is.gives;
  }

  gives_extends : (k : Kind) (v w : ℕ) → GivesOne d k v w → GivesOne e k v w
  gives_extends k v w is = record {
    statement = is.statement;
    stands = stands_extends is.statement k is.stands;
    fed = fed_extends is.statement 1 v (there d is.statement k is.stands) is.fed;
    sends = value_extends w (output is.statement false ∷ []) is.sends;
  }

  pub left_extends : (v w : ℕ) → IsLeft d v w → IsLeft e v w
  left_extends v w is = (is.0, gives_extends Last v is.0 is.1, gives_extends Leave is.0 w is.2)

  pub inside_extends : (around : ℕ) (way : Way) (s : ℕ) → IsInside d.scopes around way s → IsInside e.scopes around way s
  inside_extends around way s is = (is.0, scope_extends s is.0 is.1, is.2, is.3)

-- what comes out over a `last` and a `leave`
pub leaves_left : (d e : DrawingParts) (v w : ℕ) → Leaves d e v w → IsLeft e v w
leaves_left d e v w h =
    let g = extends_grown h.between e h.leave.adds.grows in
    let last : GivesOne h.between Last v h.given = record { statement = length d.statements + 1; stands = h.last.adds.stands; fed = h.last.adds.fed.0; sends = h.last.value } in
    (h.given, gives_extends h.between e g Last v h.given last, record { statement = length h.between.statements + 1; stands = h.leave.adds.stands; fed = h.leave.adds.fed.0; sends = h.leave.value })

-- and where more is bound
pub of_more : {A : Type 0} (xs ys : List A) (x : A) → IsOf xs x → IsOf (xs ++ ys) x
of_more [] ys x h = absurd h
of_more (y ∷ xs) ys x (inl e) = inl e
of_more (y ∷ xs) ys x (inr h) = inr (of_more xs ys x h)

pub named_more : (d : DrawingParts) (bs more : List Binding) (scope name v : ℕ) → IsNamed d bs scope name v → IsNamed d (bs ++ more) scope name v
named_more d bs more scope name v is = record { binding = is.binding; is = of_more bs more is.binding is.is; named = is.named; comes = is.comes }

pub constant_more : (d : DrawingParts) (bs more : List Binding) (scope : ℕ) (k : Constant) (v : ℕ) → IsConstant d bs scope k v → IsConstant d (bs ++ more) scope k v
constant_more d bs more scope k v is = record {
  within = is.within;
  is = is.is;
  trigger = is.trigger;
  clock = named_more d bs more scope is.within.clock is.trigger is.clock;
  statement = is.statement;
  stands = is.stands;
  fed = is.fed;
  gives = is.gives;
}

pub constant_on : (d : DrawingParts) (bs cs : List Binding) → Continues bs cs → (scope : ℕ) (k : Constant) (v : ℕ) → IsConstant d bs scope k v → IsConstant d cs scope k v
constant_on d bs cs on scope k v is = subst (λ (xs : List Binding). IsConstant d xs scope k v) (sym on.1) (constant_more d bs on.0 scope k v is)
