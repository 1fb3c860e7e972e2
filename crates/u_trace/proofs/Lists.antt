-- What stands at a place of a list.
use Rattle.std.proofs.Common.{◌≡◌, ℕ, zero, suc, ◌+◌, ◌<◌, ◌≤◌, List, [], ◌∷◌, ◌++◌, ◌⊎◌, inl, inr, refl, sym, ◌∙◌, ap, take, length, get_or, Some, arith}
use Rattle.std.specs.Prelude.{Contains, slice_get}
use Rattle.std.proofs.lemmas.List.{take_more}
use Rattle.u_base.proofs.Member.{Contains-nil, Contains-tail, Contains-cons_cases}

pub below_or_not : (j k : ℕ) → (j < k) ⊎ (k ≤ j)
below_or_not j k = grind arith

pub same_or_not : (j k : ℕ) → (j ≡ k) ⊎ (j ≡ k → ⊥)
same_or_not j k =
    elim (below_or_not j k)
    [ inl l ↦ inr (λ e. omega (arith, l, e)) | inr h ↦ elim (below_or_not k j) [ inl l ↦ inr (λ e. omega (arith, l, e)) | inr g ↦ inl (omega (arith, h, g)) ] ]

module _ {X : Type 0} where
  pub get_below : (xs : List X) (k : ℕ) (x : X) → slice_get xs k ≡ Some x → k < length xs
  get_below [] k x e = absurd (cc)
  get_below (y ∷ xs) zero x e = omega arith
  get_below (y ∷ xs) (suc k) x e = let l = get_below xs k x e in omega (arith, l)

  pub get_longer : (xs ys : List X) (k : ℕ) (x : X) → slice_get xs k ≡ Some x → slice_get (xs ++ ys) k ≡ Some x
  get_longer [] ys k x e = absurd (cc)
  get_longer (y ∷ xs) ys zero x e = e
  get_longer (y ∷ xs) ys (suc k) x e = get_longer xs ys k x e

  -- a list with one more at its end
  pub get_push_cases : (xs : List X) (y x : X) (k : ℕ) → slice_get (xs ++ y ∷ []) k ≡ Some x → (slice_get xs k ≡ Some x) ⊎ ((length xs ≡ k) × (y ≡ x))
  get_push_cases [] y x zero e = inr (refl, let h : y ≡ x = cc in h)
  get_push_cases [] y x (suc k) e = absurd (cc)
  get_push_cases (z ∷ xs) y x zero e = inl e
  get_push_cases (z ∷ xs) y x (suc k) e = elim (get_push_cases xs y x k e) [ inl h ↦ inl h | inr (l, h) ↦ inr (ap suc l, h) ]

  pub get_push_end : (xs : List X) (y : X) → slice_get (xs ++ y ∷ []) (length xs) ≡ Some y
  get_push_end [] y = refl
  get_push_end (z ∷ xs) y = get_push_end xs y

  -- the members of the first ones
  pub in_take : (xs : List X) (j k : ℕ) (x : X) → slice_get xs j ≡ Some x → j < k → Contains (take k xs) x
  in_take [] j k x e l = absurd (cc)
  in_take (y ∷ xs) j zero x e l = absurd (omega arith)
  in_take (y ∷ xs) zero (suc k) x e l = let h : y ≡ x = cc in (0, omega arith, h)
  in_take (y ∷ xs) (suc j) (suc k) x e l = Contains-tail y x (take k xs) (in_take xs j k x e (omega (arith, l)))

  pub of_take : (xs : List X) (k : ℕ) (x : X) → Contains (take k xs) x → (j : ℕ) × (j < k) × (slice_get xs j ≡ Some x)
  of_take [] k x m = absurd (Contains-nil x (nothing k m))
    where
      nothing : (k : ℕ) → Contains (take {A = X} k []) x → Contains [] x
      nothing zero m = m
      nothing (suc k) m = m
  of_take (y ∷ xs) zero x m = absurd (Contains-nil x m)
  of_take (y ∷ xs) (suc k) x m =
      elim (Contains-cons_cases y x (take k xs) m) [ inl e ↦ (0, omega arith, ap Some e) | inr n ↦ (let r = of_take xs k x n in (suc r.0, omega (arith, r.1), r.2)) ]

  pub of_list : (xs : List X) (x : X) → Contains xs x → (j : ℕ) × (slice_get xs j ≡ Some x)
  of_list [] x m = absurd (Contains-nil x m)
  of_list (y ∷ xs) x m = elim (Contains-cons_cases y x xs m) [ inl e ↦ (0, ap Some e) | inr n ↦ (let r = of_list xs x n in (suc r.0, r.1)) ]

  pub in_list : (xs : List X) (j : ℕ) (x : X) → slice_get xs j ≡ Some x → Contains xs x
  in_list [] j x e = absurd (cc)
  in_list (y ∷ xs) zero x e = let h : y ≡ x = cc in (0, omega arith, h)
  in_list (y ∷ xs) (suc j) x e = Contains-tail y x xs (in_list xs j x e)

  -- the first ones, and the next
  pub next_take : (xs : List X) (i : ℕ) (x : X) → i < length xs → x ≡ get_or xs i x → take (i + 1) xs ≡ take i xs ++ x ∷ []
  next_take xs i x l e = take_more xs i x l ∙ ap (λ (y : X). take i xs ++ y ∷ []) (sym e)

  pub next_of : (xs : List X) (i : ℕ) (x : X) → slice_get xs i ≡ Some x → take (i + 1) xs ≡ take i xs ++ x ∷ []
  next_of xs i x e = let h : i + 1 ≡ suc i = omega arith in ap (λ (n : ℕ). take n xs) h ∙ next xs i e
    where
      next : (xs : List X) (i : ℕ) → slice_get xs i ≡ Some x → take (suc i) xs ≡ take i xs ++ x ∷ []
      next [] i e = absurd (cc)
      next (y ∷ ys) zero e = let h : y ≡ x = cc in ap (λ (z : X). z ∷ []) h
      next (y ∷ ys) (suc i) e = ap (λ (zs : List X). y ∷ zs) (next ys i e)

  pub same_at : (xs : List X) (k : ℕ) (x y : X) → slice_get xs k ≡ Some x → slice_get xs k ≡ Some y → x ≡ y
  same_at xs k x y p q = let h : Some x ≡ Some y = sym p ∙ q in cc
