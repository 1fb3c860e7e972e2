-- What follows from the rule: of any two among what is published and what its readers saw, one begins the other.
use Rattle.std.proofs.Common.{◌≡◌, ℕ, ◌⊎◌, inl, inr, List, [], ◌∷◌, ◌++◌, refl, sym, ap, subst, ◌∙◌, ⊎_elim}
use mathlib.Core.Option.{some}
use lib.ListN.{get_elem?}
use Rattle.u_outlet.specs.Fronts.{StartsWith, StartsWithEach}

module _ {X : Type 0} where
  grown : (x : X) (xs ys : List X) → StartsWith xs ys → StartsWith (x ∷ xs) (x ∷ ys)
  grown x xs ys s = (s.0, ap (λ zs. x ∷ zs) s.1)

  -- of two fronts of one list, one begins the other
  pub one_begins : (xs ys p q : List X) → xs ++ p ≡ ys ++ q → StartsWith xs ys ⊎ StartsWith ys xs
  one_begins [] ys p q e = inr (ys, refl)
  one_begins (x ∷ xs) [] p q e = inl (x ∷ xs, refl)
  one_begins (x ∷ xs) (y ∷ ys) p q e =
      let same_head : x ≡ y = cc in
      let same_tail : xs ++ p ≡ ys ++ q = cc in
      subst (λ z. StartsWith (x ∷ xs) (z ∷ ys) ⊎ StartsWith (z ∷ ys) (x ∷ xs)) same_head (⊎_elim
      (λ (t : StartsWith xs ys). inl (grown x xs ys t))
      (λ (t : StartsWith ys xs). inr (grown x ys xs t))
      (one_begins xs ys p q same_tail))

  -- what two seats know: one of the two begins the other
  pub comparable : (published : List X) (known : List (List X)) → StartsWithEach published known → (i j : ℕ) (v w : List X) → get_elem? known i ≡ some v → get_elem? known j ≡ some w
      → StartsWith v w ⊎ StartsWith w v
  comparable published known each i j v w at_i at_j =
      let first = each i v at_i in
      let second = each j w at_j in
      one_begins v w first.0 second.0 (sym first.1 ∙ second.1)
