-- What a set of keys in the order of their coming has, and what a put makes of it.
use Rattle.std.proofs.Common.{◌≡◌, inl, inr, List, [], ◌∷◌, ◌++◌, Bool, true, false, ℕ, Option, Some, None, Contains, subst, sym, refl, length}
use Rattle.std.specs.Prelude.{if◌then◌else◌, slice_get, position, IfSome}
use Rattle.std.proofs.Common.{get_or}
use Rattle.std.proofs.lemmas.Option.{slice_get_read}
use Rattle.std.proofs.lemmas.List.Quantifiers.{position-Some}
use Rattle.std.specs.Cmp.{IsEquivalence}
use Rattle.std.specs.List.{list_any, IsDistinct, AllByRecursion}
use Rattle.u_base.specs.Firing.{Distinct}
use Rattle.u_base.proofs.Member.{Contains-nil, Contains-cons_cases}
use Rattle.u_sets.specs.Members.{GoesLast}
use Rattle.u_sets.proofs.Hashed.{found, finds}

module _ {X : Type 0} (E : X → X → Bool) (o : IsEquivalence E) (exact : (a b : X) → E a b ≡ true → a ≡ b) where
  apart : (x : X) (xs : List X) → AllByRecursion (λ y. E x y ≡ false) xs → Contains xs x → ⊥
  apart x [] h m = Contains-nil x m
  apart x (y ∷ ys) h m =
      elim (Contains-cons_cases y x ys m) [
        | inl e ↦ let t = subst (λ (z : X). E x z ≡ true) (sym e) (o.refl x) in let u = h.0 in cc
        | inr n ↦ apart x ys h.1 n
      ]

  pub distinct : (xs : List X) → IsDistinct E xs → Distinct xs
  unfolding IsDistinct
  distinct [] h = tt
  distinct (x ∷ xs) h = (apart x xs h.0, distinct xs h.1)

  pub goes_last : (xs : List X) (x : X) → GoesLast xs x (if list_any (E x) xs then xs else xs ++ x ∷ [])
  goes_last xs x = at (list_any (E x) xs) refl
    where
      at : (t : Bool) → list_any (E x) xs ≡ t → GoesLast xs x (if t then xs else xs ++ x ∷ [])
      at true e = inl (found E o exact xs x e, refl)
      at false e = inr ((λ m. let k = finds E o exact xs x m in cc), refl)

  pub stands : (xs : List X) (i : ℕ) (x k : X) → slice_get xs i ≡ Some k → E x k ≡ true → slice_get xs i ≡ Some x
  stands xs i x k h e = subst (λ (z : X). slice_get xs i ≡ Some z) (sym (exact x k e)) h

  pub placed : (xs : List X) (x : X) (r : Option ℕ) → r ≡ position (E x) xs → IfSome r (λ i. slice_get xs i ≡ Some x)
  placed xs x (Some i) e =
      let h = position-Some (E x) xs i x (sym e) in
      slice_get_read xs (length xs) i x refl h.0 (exact x (get_or xs i x) h.1)
  placed xs x None e = tt
