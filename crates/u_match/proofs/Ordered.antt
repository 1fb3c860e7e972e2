-- What is left of a sorted list without those that come twice: the same members, in order and each once.
use Rattle.std.proofs.Common.{◌≡◌, ◌<◌, inl, inr, sym, subst, arith, List, [], ◌∷◌, length, Bool, true, Contains, Ordering}
use Rattle.std.specs.Prelude.{IsSorted}
use Rattle.std.specs.Cmp.{IsTotalOrder, IsEquivalence}
use Rattle.std.specs.Ordering.{eq_by_cmp}
use Rattle.std.specs.declared.cmp.Ordering.TheVariants.{Less}
use Rattle.std.specs.List.{AllByRecursion, dedup}
use Rattle.std.specs.List.Sorted.{IsPermutation, IsStrictlySortedBy}
use Rattle.std.specs.List.Retain.{IsFiltered, DiffersFromLast}
use Rattle.std.proofs.lemmas.List.Filters.{dedup_is}
use Rattle.std.proofs.lemmas.List.Kept.{IsStrictlySortedBy-dedup, Contains-dedup, Contains-from_dedup}
use Rattle.std.proofs.lemmas.List.Sorted.{Contains-permutation, IsPermutation-sym}
use Rattle.u_base.specs.Firing.{Same}
use Rattle.u_base.proofs.Member.{Contains-nil, Contains-cons_cases}
use Rattle.u_sets.specs.Rising.{Rises}

of_all : {X : Type 0} (P : X → Type 0) (xs : List X) → AllByRecursion P xs → (y : X) → Contains xs y → P y
of_all P [] h y m = absurd (Contains-nil y m)
of_all P (x ∷ xs) h y m = elim (Contains-cons_cases x y xs m) [ inl e ↦ subst P e h.0 | inr k ↦ of_all P xs h.1 y k ]

-- a list of one or none rises
pub rises_alone : {X : Type 0} (R : X → X → Ordering) (xs : List X) → length xs < 2 → Rises R xs
rises_alone R [] h = tt
rises_alone R (x ∷ []) h = ((λ y m. absurd (Contains-nil y m)), tt)
rises_alone R (x ∷ y ∷ ys) h = absurd (omega arith)

module _ {X : Type 0} (R : X → X → Ordering) (o : IsTotalOrder R) (E : X → X → Bool) (ties : (x y : X) → E x y ≡ eq_by_cmp R x y) where
  risen : (xs : List X) → IsStrictlySortedBy R xs → Rises R xs
  unfolding IsStrictlySortedBy
  risen [] s = tt
  risen (x ∷ xs) s = (of_all (λ z. R x z ≡ Less) xs s.0, risen xs s.1)

  pub rises : (xs ys : List X) → IsSorted R xs → IsFiltered (DiffersFromLast E) [] xs ys → Rises R ys
  rises xs ys s f = subst (λ (zs : List X). Rises R zs) (sym (dedup_is E xs ys f)) (risen (dedup E xs) (IsStrictlySortedBy-dedup o ties xs s))

  pub same : IsEquivalence E → ((x y : X) → E x y ≡ true → x ≡ y) → (xs ys zs : List X) → IsPermutation xs ys → IsFiltered (DiffersFromLast E) [] ys zs → Same (Contains zs) (Contains xs)
  same e exact xs ys zs p f z = (to, back)
    where
      is : zs ≡ dedup E ys
      is = dedup_is E ys zs f

      to : Contains zs z → Contains xs z
      to m = Contains-permutation ys xs z (IsPermutation-sym xs ys p) (Contains-from_dedup E ys z (subst (λ (ws : List X). Contains ws z) is m))

      back : Contains xs z → Contains zs z
      back m = subst (λ (ws : List X). Contains ws z) (sym is) (Contains-dedup e exact ys z (Contains-permutation xs ys z p m))
