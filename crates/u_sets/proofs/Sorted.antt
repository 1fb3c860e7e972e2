-- Ascending lists by a total order: what a binary search finds, and an insert at that place.
use Rattle.std.proofs.Common.{◌≡◌, ℕ, zero, suc, ◌<◌, ◌≤◌, List, [], ◌∷◌, ◌++◌, inl, inr, subst, ap, ◌∙◌, take, drop, length, get_or, arith, add-one, Ordering, false}
use Rattle.std.specs.Prelude.{IsSortedBy}
use Rattle.std.specs.Cmp.{IsTotalOrder}
use Rattle.std.specs.Ordering.{is_lt, ordering_index, ordering_reverse}
use Rattle.std.specs.declared.cmp.Ordering.TheVariants.{Less, Greater}
use Rattle.std.specs.List.Sorted.{IsNonDecreasingBy}
use Rattle.std.proofs.lemmas.List.Sorted.{searchable_from_sorted}
use Rattle.std.proofs.lemmas.List.Elements.{Contains-append_left, Contains-append_right, Contains-append_cases, Contains-get_or}
use Rattle.std.proofs.lemmas.List.{take-append-drop}
use Rattle.u_sets.specs.Rising.{Ascending}
use Rattle.u_base.proofs.Member.{Contains-cons_cases}

module _ {X : Type 0} (R : X → X → Ordering) (o : IsTotalOrder R) where
  pub turn_greater : (x y : X) → R y x ≡ Greater → R x y ≡ Less
  turn_greater x y e = o.antisymm x y ∙ ap ordering_reverse e

  up_at : (xs : List X) (k : ℕ) (d : X) → suc k < length xs → Ascending (λ a b. R a b ≡ Less) xs → R (get_or xs k d) (get_or xs (suc k) d) ≡ Less
  up_at [] k d l up = absurd (omega arith)
  up_at (x ∷ xs) zero d l up = up.0 (get_or xs 0 d) (Contains-get_or xs 0 d (omega arith))
  up_at (x ∷ xs) (suc k) d l up = up_at xs k d (omega arith) up.1

  pub searchable : (xs : List X) (x : X) → Ascending (λ a b. R a b ≡ Less) xs → IsNonDecreasingBy (λ y. ordering_index (R y x)) xs
  searchable xs x up = searchable_from_sorted o (λ (a : X). a) xs x sorted
    where
      flat : (a b : X) → R a b ≡ Less → is_lt (R b a) ≡ false
      flat a b e = ap is_lt (o.antisymm b a ∙ ap ordering_reverse e)

      sorted : IsSortedBy (λ a b. is_lt (R a b)) xs
      sorted k d z l = rw add-one (flat (get_or xs k d) (get_or xs (suc k) d) (up_at xs k d (omega arith) up))

  pub Ascending-insert : (xs : List X) (i : ℕ) (x : X) → i ≤ length xs → ((k : ℕ) (d : X) → k < i → R (get_or xs k d) x ≡ Less) → ((k : ℕ) (d : X) → i ≤ k → k < length xs → R (get_or xs k d) x ≡ Greater) → Ascending (λ a b. R a b ≡ Less) xs → Ascending (λ a b. R a b ≡ Less) (take i xs ++ x ∷ drop i xs)
  Ascending-insert xs zero x l below above up =
      ((λ y (k, m, e). turn_greater x y (subst (λ (w : X). R w x ≡ Greater) e (above k y (omega arith) m))), up)
  Ascending-insert [] (suc i) x l below above up = absurd (omega arith)
  Ascending-insert (z ∷ xs) (suc i) x l below above up = (
    (λ y m. elim (Contains-append_cases (take i xs) (x ∷ drop i xs) y m) [
      | inl a ↦ up.0 y (rw take-append-drop at (Contains-append_left (take i xs) (drop i xs) y a))
      | inr b ↦ elim (Contains-cons_cases x y (drop i xs) b) [
        | inl e ↦ subst (λ (w : X). R z w ≡ Less) e (below 0 z (omega arith))
        | inr c ↦ up.0 y (rw take-append-drop at (Contains-append_right (take i xs) (drop i xs) y c))
      ]
    ]),
    Ascending-insert xs i x (omega arith) (λ k d h. below (suc k) d (omega arith)) (λ k d h m. above (suc k) d (omega arith) (omega arith)) up.1,
  )
