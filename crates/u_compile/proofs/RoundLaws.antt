-- What goes round in a loop: to the `next` of each variable leads the value with which it goes on.
use Rattle.std.proofs.Common.{◌≡◌, ℕ, ◌+◌, ◌<◌, ◌≤◌, arith, below_more, ◌⊎◌, inl, inr, refl, sym, ap, ◌∙◌, subst, length, Some, None}
use Rattle.std.specs.Prelude.{slice_get}
use Rattle.u_compile.specs.declared.drawing.Carried.{Carried}
use Rattle.u_compile.specs.declared.lowering.Start.{Start}
use Rattle.u_compile.specs.declared.naming.Binding.{Binding}
use Rattle.u_compile.specs.Drawings.{DrawingParts, IsFedBy, IsNextOf}
use Rattle.u_compile.specs.Namings.{IsNamed, a_binding}
use Rattle.u_compile.specs.Operands.{LoweringParts}
use Rattle.u_compile.specs.Turns.{GoesRound, ClosesTurn, ClosesTurns}
use Rattle.u_compile.proofs.DrawingLaws.{get_goes_on, at_goes_on}
use Rattle.u_compile.proofs.CarriedLaws.{some_carried, noted_now, noted_other}
use Rattle.u_compile.proofs.KnownLaws.{comes_then}
use Rattle.u_compile.proofs.ExtendLaws.{Extends, extends_grown, extends_carried, extends_then, fed_extends, comes_extends}
use Rattle.u_compile.proofs.FollowLaws.{Follows, plain_then, Root, Traced, turn_closes, turns_close}

-- What is carried under that number goes on with a value: with the one that is noted for it, or with what its name is in the block.
-- Exactly that leads to a `next` of its `enter`.
pub record Round (P : LoweringParts → Binding → Type 0) (block number : ℕ) (c : Carried) (e : LoweringParts) : Type 0 where
  pub value : ℕ
  pub is : (c.next ≡ Some value) ⊎ ((c.next ≡ None) × Root P e (a_binding block c.name value))
  pub next : slice_get e.drawing.carried number ≡ Some (record c { next = Some value })
  pub statement : ℕ
  pub stands : IsNextOf e.drawing.statements statement c.enter
  pub fed : IsFedBy e.drawing.links e.drawing.values statement 1 value

-- all else that is carried stays as it is
round_untouched : (number v : ℕ) (l m : LoweringParts) (k : ℕ) (c : Carried) → (number ≡ k → ⊥) → GoesRound number v l m → slice_get l.drawing.carried k ≡ Some c → slice_get m.drawing.carried k ≡ Some c
round_untouched number v l m k c never g is = noted_other g.adds.between m.drawing number v k c never g.adds.notes (get_goes_on l.drawing.carried g.adds.between.carried k c g.adds.adds.grows.carried is)

turn_untouched : (turn block number : ℕ) (l m : LoweringParts) → ClosesTurn turn block number l m → (k : ℕ) (c : Carried) → (number ≡ k → ⊥) → slice_get l.drawing.carried k ≡ Some c → slice_get m.drawing.carried k ≡ Some c
turn_untouched turn block number l m (ClosesTurn.other d at other same) k c never is = subst (λ (x : LoweringParts). slice_get x.drawing.carried k ≡ Some c) (sym same) is
turn_untouched turn block number l m (ClosesTurn.given d v at of next goes) k c never is = round_untouched number v l m k c never goes is
turn_untouched turn block number l m (ClosesTurn.kept d v between at of next goes_on named goes) k c never is = round_untouched number v between m k c never goes (get_goes_on l.drawing.carried between.drawing.carried k c goes_on.grows.carried is)

turns_untouched : (turn block : ℕ) (l : LoweringParts) (n : ℕ) (m : LoweringParts) → ClosesTurns turn block l n m → (k : ℕ) (c : Carried) → n ≤ k → slice_get l.drawing.carried k ≡ Some c → slice_get m.drawing.carried k ≡ Some c
turns_untouched turn block l n m ClosesTurns.none k c h is = is
turns_untouched turn block l n m (ClosesTurns.one_more number b x before closes) k c h is = turn_untouched turn block number b m closes k c (λ q. omega (arith, h, q)) (turns_untouched turn block l number b before k c (omega (arith, h)) is)

round_of : (P : LoweringParts → Binding → Type 0) (block number v : ℕ) (l m e : LoweringParts) (c : Carried) → slice_get l.drawing.carried number ≡ Some c → GoesRound number v l m → Follows m e → (c.next ≡ Some v) ⊎ ((c.next ≡ None) × Root P e (a_binding block c.name v)) → Round P block number c e
round_of P block number v l m e c at g f is =
    let a = g.adds in
    let n = length l.drawing.statements + 1 in
    let on_to : Extends a.between e.drawing = extends_then a.between m.drawing e.drawing (subst (λ (d : DrawingParts). Extends a.between d) (sym a.notes.now) (extends_carried a.between _)) f.extends in
    let there = get_goes_on l.drawing.carried a.between.carried number c a.adds.grows.carried at in
    let same : a.of.0 ≡ c = some_carried a.of.0 c (sym a.of.1 ∙ at) in
    let next = a.of.2 in
    let stands : IsNextOf e.drawing.statements n a.of.0.enter = (next.0, at_goes_on a.between.statements e.drawing.statements n next.0 on_to.statements next.1, next.2, next.3) in
    record {
      value = v;
      is = is;
      next = f.notes number v (record c { next = Some v }) (noted_now a.between m.drawing number v c a.notes there) refl;
      statement = n;
      stands = subst (λ (y : Carried). IsNextOf e.drawing.statements n y.enter) same stands;
      fed = fed_extends a.between e.drawing on_to n 1 v (omega (arith, a.adds.one)) a.adds.fed.0;
    }

module _ (P : LoweringParts → Binding → Type 0) (Q : LoweringParts → Start → Type 0) (grow : (l m : LoweringParts) (b : Binding) → Follows l m → P l b → P m b) (grow_start : (l m : LoweringParts) (s : Start) → Follows l m → Q l s → Q m s) where
  -- what a name is comes from what was bound to it
  pub named_root : (l e : LoweringParts) (d : DrawingParts) → Traced P l → Follows l e → Extends d e.drawing → (scope name v : ℕ) → IsNamed d l.scene.names.bindings scope name v → Root P e (a_binding scope name v)
  named_root l e d all f g scope name v is =
      let b = is.binding in
      let r = all b is.is in
      record {
        root = r.root;
        is = grow l e r.root f r.is;
        named = r.named ∙ is.named;
        comes = comes_then e.drawing r.root.scope r.root.value b.scope b.value scope v (comes_extends l.drawing e.drawing f.extends r.root.scope r.root.value b.scope b.value r.comes) (comes_extends d e.drawing g b.scope b.value scope v is.comes);
      }

  turn_round : (turn block number : ℕ) (l m e : LoweringParts) (c : Carried) → Traced P l → slice_get l.drawing.carried number ≡ Some c → c.turn ≡ turn → ClosesTurn turn block number l m → Follows m e → Round P block number c e
  turn_round turn block number l m e c all at of (ClosesTurn.other d is other same) f = absurd (other (ap (λ (y : Carried). y.turn) (some_carried d c (sym is ∙ at)) ∙ of))
  turn_round turn block number l m e c all at of (ClosesTurn.given d v is same next goes) f = round_of P block number v l m e c at goes f (inl (ap (λ (y : Carried). y.next) (some_carried c d (sym at ∙ is)) ∙ next))
  turn_round turn block number l m e c all at of (ClosesTurn.kept d v between is same next goes_on named goes) f =
      let one : d ≡ c = some_carried d c (sym is ∙ at) in
      let whole = plain_then l m e (turn_closes P Q grow grow_start turn block number l m (ClosesTurn.kept d v between is same next goes_on named goes)).follows f in
      let round = get_goes_on l.drawing.carried between.drawing.carried number c goes_on.grows.carried at in
      let a = goes.adds in
      let first : Extends between.drawing a.between = extends_grown between.drawing a.between a.adds.grows in
      let noted : Extends a.between m.drawing = subst (λ (y : DrawingParts). Extends a.between y) (sym a.notes.now) (extends_carried a.between _) in
      let on_to = extends_then between.drawing a.between e.drawing first (extends_then a.between m.drawing e.drawing noted f.extends) in
      let name : IsNamed between.drawing l.scene.names.bindings block c.name v = subst (λ (y : Carried). IsNamed between.drawing l.scene.names.bindings block y.name v) one named in
      round_of P block number v between m e c round goes f (inr (ap (λ (y : Carried). y.next) (sym one) ∙ next, named_root l e between.drawing all whole on_to block c.name v name))

  -- a turn ends
  pub turns_round : (turn block : ℕ) (l : LoweringParts) (n : ℕ) (m e : LoweringParts) → Traced P l → ClosesTurns turn block l n m → Follows m e → (number : ℕ) → number < n → (c : Carried) → slice_get l.drawing.carried number ≡ Some c → c.turn ≡ turn → Round P block number c e
  turns_round turn block l n m e all ClosesTurns.none f = λ number h c at of. absurd (omega (arith, h))
  turns_round turn block l n m e all (ClosesTurns.one_more last k x before closes) f =
      let to_k = (turns_close P Q grow grow_start turn block l last k before).traced all in
      let from_k = plain_then k m e (turn_closes P Q grow grow_start turn block last k m closes).follows f in
      below_more (λ (number : ℕ). (c : Carried) → slice_get l.drawing.carried number ≡ Some c → c.turn ≡ turn → Round P block number c e) last (turns_round turn block l last k e all before from_k) (λ c at of. turn_round turn block last k m e c to_k (turns_untouched turn block l last k before last c (omega arith) at) of closes f)
