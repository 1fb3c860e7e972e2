-- A checked program that is strict is determinate.
use Rattle.std.proofs.Common.{◌≡◌, ℕ, ◌-◌, refl, ap, sym, ◌∙◌, arith, subst, Bool, true, false, not, List, Option, Some, None, inl, inr, ◌⊎◌}
use Rattle.std.specs.Prelude.{Contains, slice_get}
use Rattle.u_program.specs.declared.program.Kind.TheVariants.{Switch}
use Rattle.u_program.specs.declared.program.Destination.{Destination}
use Rattle.u_program.specs.Parts.{StatementParts, BlockParts}
use Rattle.u_check.specs.Kinds.{ports_of, comes_from_outside, is_of_loop}
use Rattle.u_check.specs.Rules.{statement_at, sends, Arc, list_of, destination_in, destination_of, IsChecked}
use Rattle.u_check.proofs.Arcs.{has_number}
use Rattle.u_check.proofs.Blocks.{member_at}
use Rattle.u_check.proofs.Facts.{in_to, in_otherwise, target_exists, target_takes, apply_returned, lies_in_loop, region_exists}
use Rattle.u_determinate.specs.Arcs.{OnlyArc, ArcFrom}
use Rattle.u_determinate.specs.Strict.{IsGuarded, IsTested, IsStrictBlock, IsStrict}
use Rattle.u_determinate.specs.Strict as strict
use Rattle.u_determinate.proofs.KindFacts.{named_apply}
use Rattle.u_determinate.specs.Guards.{FromSwitch, HasGuard}
use Rattle.u_determinate.specs.Determinate.{MayMeet, OneSource, OneApply, Exclude, TurnsOrEnds, IsDeterminate}

-- the statement that an arc comes from, and that it sends to the arc's destination
pub record FromStatement (ss : List StatementParts) (a : Arc) (d : Destination) : Type 0 where
  pub it : StatementParts
  pub stands : statement_at ss a.statement ≡ Some it
  pub sends_there : Contains (sends it) d

pub from_statement : (ss : List StatementParts) (a : Arc) (d : Destination) → destination_of ss a ≡ Some d → FromStatement ss a d
from_statement ss a d e = at (statement_at ss a.statement) refl e
  where
    listed : (s : StatementParts) (on_false : Bool) → slice_get (list_of s on_false) a.place ≡ Some d → Contains (sends s) d
    listed s true q = in_otherwise s d (member_at s.otherwise a.place d q)
    listed s false q = in_to s d (member_at s.to a.place d q)

    at : (o : Option StatementParts) → statement_at ss a.statement ≡ o → destination_in o a ≡ Some d → FromStatement ss a d
    at None z q = cc
    at (Some s) z q = record { it = s; stands = z; sends_there = listed s a.on_false q }

-- the statement behind the only arc to the control of the `switch` that guards statement n
guarded : (ss : List StatementParts) (l t : ℕ) (value : Bool) (n : ℕ) (s : StatementParts) → statement_at ss n ≡ Some s → comes_from_outside s.kind ≡ false → ports_of s.kind ≡ 1 → IsGuarded ss l t (not value) n → HasGuard ss t value n
guarded ss l t value n s e o p g =
    (1, inl (record { it = s; stands = e; takes = o; port = 1; exists = (omega arith, omega (arith, p)); all = λ a h. inr (inl (by a (g.alone.only a h))) }))
  where
    by : (a : Arc) → a ≡ g.arc → FromSwitch ss t value a
    by a q = record {
      switch = subst (λ (x : Arc). ArcFrom ss x Switch) (sym q) g.switch;
      side = ap (λ (x : Arc). x.on_false) q ∙ g.side;
      control = g.control;
      controls = subst (λ (x : Arc). OnlyArc ss x.statement 2 g.control) (sym q) g.controls;
      source = (1, inl g.test);
    }

module _ (p : List BlockParts) (c : IsChecked p) (b : BlockParts) (ours : Contains p b) (s : IsStrictBlock b) where
  meets : OneSource b.statements
  meets n port x y ex ey =
      let f = from_statement b.statements x _ ex in
      let i = has_number b.statements x.statement f.it f.stands in
      let g = target_exists p c b ours (x.statement - 1) f.it i.1 _ f.sends_there in
      let o = target_takes p c b ours (x.statement - 1) f.it i.1 _ f.sends_there g.it g.stands in
      of (s.one_source n g.it g.stands o port (g.port_from, g.port_to))
    where
      of : ((a : Arc) × OnlyArc b.statements n port a) ⊎ strict.EnterAndNext b.statements n port → MayMeet b.statements x y
      of (inl (a, only)) = inl (only.only x ex ∙ sym (only.only y ey))
      of (inr p) = both (p.only x ex) (p.only y ey)
        where
          both : (x ≡ p.enter) ⊎ (x ≡ p.next) → (y ≡ p.enter) ⊎ (y ≡ p.next) → MayMeet b.statements x y
          both (inl m) (inl k) = inl (m ∙ sym k)
          both (inr m) (inr k) = inl (m ∙ sym k)
          both (inl m) (inr k) = inr (inl ((p.loop, rw m p.from_enter), rw k p.from_next))
          both (inr m) (inl k) = inr (inr (inl ((p.loop, rw k p.from_enter), rw m p.from_next)))

  applies : (n : ℕ) → OneApply b.statements n
  applies n i j x y =
      let k = has_number b.statements i x.it x.stands in
      let a = named_apply x.it.kind n x.names in
      let r = apply_returned p c b ours (i - 1) x.it k.1 n a.0 a.1 in
      let o = s.one_apply n r.it r.stands r.is_a_back in
      o.only i x.it x.stands x.names ∙ sym (o.only j y.it y.stands y.names)

  turns : TurnsOrEnds b.statements
  turns m n next last e =
      let i = has_number b.statements m next.it next.stands in
      let l = lies_in_loop p c b ours (m - 1) next.it i.1 (ap is_of_loop next.kind) in
      let k = region_exists p c b ours (m - 1) next.it i.1 in
      by (s.one_test next.it.region l k)
    where
      by : IsTested b.statements next.it.region → Exclude b.statements m n
      by t = (
        t.test,
        true,
        guarded b.statements next.it.region t.test true m next.it next.stands (ap comes_from_outside next.kind) (ap ports_of next.kind) (t.nexts m next.it next.stands refl next.kind),
        guarded b.statements next.it.region t.test false n last.it last.stands (ap comes_from_outside last.kind) (ap ports_of last.kind) (t.lasts n last.it last.stands (sym e) last.kind),
      )

pub strict_determinate : (p : List BlockParts) → IsChecked p → IsStrict p → IsDeterminate p
strict_determinate p c s b m = record {
  one_source = meets p c b m (s b m);
  one_end = λ i j x y. (s b m).one_end i j x.it y.it x.stands y.stands x.kind y.kind;
  one_apply = applies p c b m (s b m);
  one_turn = turns p c b m (s b m);
}
