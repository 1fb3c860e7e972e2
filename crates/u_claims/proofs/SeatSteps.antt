-- Opening a board, splitting a seat that has no number, and drawing a number keep the rule of the board, whatever the board is when the step is taken.
use Rattle.std.proofs.Common.{◌≡◌, ◌≢◌, ℕ, ◌+◌, ◌<◌, ◌≤◌, ◌⊎◌, true, false, List, [], ◌∷◌, ◌++◌, ◌==◌, length, slice_index, slice_set, set, replicate, refl, sym, subst, ap, ◌∙◌, ⊎_elim, inl, inr, zero-le, arith}
use Rattle.std.proofs.lemmas.List.{get_or-replicate, length-replicate, get_or-set_same, get_or-set_other, length-set}
use mathlib.Core.Option.{some, none, some-ne-none}
use prog.Atomic.{either}
use lib.ListN.{get_elem?}
use Rattle.atomic_table.specs.Table.{State, Me, step, Act, keeps, Valid, Allows, Splits, stepped, carried_after}
use Rattle.atomic_table.proofs.Lists.{at_set, at_snoc, set_again, exchanged}
use Rattle.u_claims.specs.declared.rule.Hand.{Hand}
use Rattle.u_claims.specs.Held.{hand, newcomer, has_bucket, Fits, IsBoard, DrawsNumber}
use Rattle.u_claims.proofs.BucketSteps.{stays}

-- a newcomer holds nothing
pub newcomer_lacks : (seats b : ℕ) → b < 64 → has_bucket (newcomer seats) b ≡ true → ⊥
newcomer_lacks seats b small has = let e : true ≡ false = sym has ∙ get_or-replicate 64 b false false small in cc

-- a board whose words are all 0, and one seat
pub opens : (seats : ℕ) (ws : List ℕ) → ws ≡ replicate 65 0 → IsBoard seats record { words = ws; homes = []; views = newcomer seats ∷ [] }
opens seats ws is = record {
  wide = ap length is ∙ length-replicate {A = ℕ} 65 0;
  most = subst (λ z. z ≤ seats) (sym (zeros 64 (omega arith))) zero-le;
  known = λ b small. subst (λ z. z ≤ slice_index ws 64) (sym (zeros b (omega (arith, small)))) zero-le;
  fits = λ j v there. subst (λ z. Fits seats ws z) (only j v there)
      record { long = length-replicate 64 false; told = refl; drawn = zero-le; has = λ b small has. absurd (newcomer_lacks seats b small has); exact = λ b small positive same. absurd (omega (arith, positive)) };
  apart = λ i j x y at_i at_j positive same. let none_is : x.number ≡ 0 = ap (λ (z : Hand). z.number) (sym (only i x at_i)) in absurd (omega (arith, positive, none_is));
}
  where
    zeros : (b : ℕ) → b < 65 → slice_index ws b ≡ 0
    zeros b small = subst (λ z. slice_index z b ≡ 0) (sym is) (get_or-replicate 65 b 0 0 small)

    only : (j : ℕ) (v : Hand) → get_elem? (newcomer seats ∷ []) j ≡ some v → newcomer seats ≡ v
    only j v there = ⊎_elim (λ (nowhere : get_elem? [] j ≡ some v). absurd (some-ne-none v (sym nowhere))) (λ e. e) (at_snoc [] (newcomer seats) v j there)

-- a seat that has no number is split in two such seats
pub splits : (seats id : ℕ) (v : Hand) → v.number ≡ 0 → Splits (IsBoard seats) id v v v
splits seats id v none_is s board at = record {
  wide = board.wide;
  most = board.most;
  known = board.known;
  fits = λ j u there. ⊎_elim (λ h. board.fits j u h) (λ (e : v ≡ u). subst (λ z. Fits seats s.words z) e (board.fits id v at)) (back j u there);
  apart = λ i j x y at_i at_j positive same. ⊎_elim
      (λ was_i. ⊎_elim (λ was_j. board.apart i j x y was_i was_j positive same)
      (λ (e : v ≡ y). let zero_is : x.number ≡ 0 = same ∙ (ap (λ (u : Hand). u.number) (sym e) ∙ none_is) in absurd (omega (arith, positive, zero_is))) (back j y at_j))
      (λ (e : v ≡ x). let zero_is : x.number ≡ 0 = ap (λ (u : Hand). u.number) (sym e) ∙ none_is in absurd (omega (arith, positive, zero_is))) (back i x at_i);
}
  where
    same_views : set s.views id v ≡ s.views
    same_views = set_again s.views id v at

    back : (j : ℕ) (u : Hand) → get_elem? (set s.views id v ++ v ∷ []) j ≡ some u → (get_elem? s.views j ≡ some u) ⊎ (v ≡ u)
    back j u there = ⊎_elim (λ h. inl (subst (λ z. get_elem? z j ≡ some u) same_views h)) (λ h. inr h) (at_snoc (set s.views id v) v u j there)

-- The counting word is k, and becomes k + 1, which is the number of the seat `id` from now on. That seat had no number and held nothing.
module _ (seats id k : ℕ) (v : Hand) (s : State (Unit {0}) Hand) (board : IsBoard seats s) (at : get_elem? s.views id ≡ some v) (room : k < seats)
    (bare : (b : ℕ) → b < 64 → has_bucket v b ≡ true → ⊥) (count : slice_index s.words 64 ≡ k) where
  abbrev words : List ℕ
  words = slice_set s.words 64 (k + 1)

  abbrev view : Hand
  view = hand v.seats (k + 1) v.held

  counter : slice_index words 64 ≡ k + 1
  counter = get_or-set_same s.words 64 (k + 1) 0 (rw board.wide (omega arith))

  elsewhere : (i : ℕ) → i < 64 → slice_index words i ≡ slice_index s.words i
  elsewhere i within = get_or-set_other s.words 64 i (k + 1) 0 (λ e. absurd (omega (arith, within, e)))

  low : (i : ℕ) → i < 64 → slice_index s.words i ≤ k
  low i within = subst (λ z. slice_index s.words i ≤ z) count (board.known i within)

  below : (j : ℕ) (u : Hand) → get_elem? s.views j ≡ some u → u.number ≤ k
  below j u there = subst (λ z. u.number ≤ z) count (board.fits j u there).drawn

  own_fits : Fits seats words view
  own_fits = let old = board.fits id v at in
      record {
        long = old.long;
        told = old.told;
        drawn = subst (λ z. k + 1 ≤ z) (sym counter) (omega arith);
        has = λ i within has. absurd (bare i within has);
        exact = λ i within positive same. let new_word : slice_index s.words i ≡ k + 1 = sym (elsewhere i within) ∙ same in absurd (omega (arith, low i within, new_word));
      }

  other_fits : (j : ℕ) (u : Hand) → get_elem? s.views j ≡ some u → Fits seats words u
  other_fits j u there = let old = board.fits j u there in
      record {
        long = old.long;
        told = old.told;
        drawn = subst (λ z. u.number ≤ z) (sym counter) (omega (arith, below j u there));
        has = λ i within has. let had = old.has i within has in (had.0, elsewhere i within ∙ had.1);
        exact = λ i within positive same. old.exact i within positive (sym (elsewhere i within) ∙ same);
      }

  -- the new number is above all others
  still_apart : (i j : ℕ) (x y : Hand) → get_elem? (slice_set s.views id view) i ≡ some x → get_elem? (slice_set s.views id view) j ≡ some y → 0 < x.number → x.number ≡ y.number → i ≡ j
  still_apart i j x y at_i at_j positive same =
      ⊎_elim
      (λ (own : (i ≡ id) × (view ≡ x)). ⊎_elim (λ (own' : (j ≡ id) × (view ≡ y)). own.0 ∙ sym own'.0)
      (λ (far : (j ≢ id) × (get_elem? s.views j ≡ some y)). let new_is : k + 1 ≡ y.number = ap (λ (z : Hand). z.number) own.1 ∙ same in absurd (omega (arith, below j y far.1, new_is))) (at_set s.views id j view y at_j))
      (λ (far : (i ≢ id) × (get_elem? s.views i ≡ some x)). ⊎_elim
      (λ (own : (j ≡ id) × (view ≡ y)). let new_is : x.number ≡ k + 1 = same ∙ ap (λ (z : Hand). z.number) (sym own.1) in absurd (omega (arith, below i x far.1, new_is)))
      (λ (far' : (j ≢ id) × (get_elem? s.views j ≡ some y)). board.apart i j x y far.1 far'.1 positive same) (at_set s.views id j view y at_j))
      (at_set s.views id i view x at_i)

  number_drawn : IsBoard seats record { words = slice_set s.words 64 (k + 1); homes = s.homes; views = slice_set s.views id (hand v.seats (k + 1) v.held) }
  number_drawn = record {
    wide = length-set s.words 64 (k + 1) ∙ board.wide;
    most = subst (λ z. z ≤ seats) (sym counter) (omega (arith, room));
    known = λ i within. subst (λ z. z ≤ slice_index words 64) (sym (elsewhere i within)) (subst (λ z. slice_index s.words i ≤ z) (sym counter) (omega (arith, low i within)));
    fits = λ j u there. ⊎_elim (λ (own : (j ≡ id) × (view ≡ u)). subst (λ z. Fits seats words z) own.1 own_fits)
        (λ (far : (j ≢ id) × (get_elem? s.views j ≡ some u)). other_fits j u far.1) (at_set s.views id j view u there);
    apart = still_apart;
  }

pub draws : (seats slots id : ℕ) (me : Me (Unit {0}) Hand) (k : ℕ) → k < seats → ((b : ℕ) → b < 64 → has_bucket me.0 b ≡ true → ⊥)
    → Allows (IsBoard seats) slots id me 64 (λ n. either (n == k) (k + 1) n) (DrawsNumber (step slots 64 k (k + 1) none) me)
draws seats slots id me k room bare s board sized at fits64 =
    let v : Hand = me.0 in
    let n : ℕ = slice_index s.words 64 in
    let Then : ℕ → Type 0 = λ x. (w : Hand) × (a : Act (Unit {0})) × Valid s.homes me.1 a × IsBoard seats (stepped s 64 x id me.1 w a) × DrawsNumber (step slots 64 k (k + 1) none) me n (w, carried_after me.1 a) in
    exchanged n k (k + 1) Then
    (λ hit. (hand v.seats (k + 1) v.held, keeps, tt, number_drawn seats id k v s board at room bare hit, (refl, (λ _. refl), (λ no. absurd (no hit)))))
    (λ miss. (v, keeps, tt, stays seats id 64 n v s board at refl, (refl, (λ yes. absurd (miss yes)), (λ _. refl))))
