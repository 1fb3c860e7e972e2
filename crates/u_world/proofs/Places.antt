-- What stands where in a list whose items are numbered from 1, after a write or a push.
use Rattle.std.specs.Prelude.{◌≡◌, ℕ, zero, suc, ◌-◌, ◌≤◌, ◌<◌, ◌⊎◌, List, [], ◌∷◌, ◌++◌, length, take, slice_get, slice_set, Some, Contains, true, nat_lt, refl}
use Rattle.std.proofs.Common.{sym, ◌∙◌, ap, subst, arith, inl, inr, get_or}
use Rattle.std.proofs.lemmas.Bool.{ltb-true}
use Rattle.std.proofs.lemmas.List.Elements.{Contains-append_cases}
use Rattle.u_name.specs.Context.{IsBetween}
use Rattle.u_world.specs.WorldState.{At}

some_same : {X : Type 0} (a b : X) → Some a ≡ Some b → b ≡ a
some_same a b p = cc

pub at_one : {X : Type 0} (xs : List X) (k : ℕ) (x y : X) → At xs k x → At xs k y → y ≡ x
at_one xs k x y a b = some_same x y (sym a.1 ∙ b.1)

set_cases : {X : Type 0} (xs : List X) (k j : ℕ) (y x : X) → slice_get (slice_set xs k y) j ≡ Some x → ((k ≡ j) × (x ≡ y)) ⊎ ((k ≡ j → ⊥) × (slice_get xs j ≡ Some x))
set_cases [] k j y x e = absurd (cc)
set_cases (z ∷ xs) zero zero y x e = inl (refl, some_same y x e)
set_cases (z ∷ xs) zero (suc j) y x e = inr ((λ p. omega arith), e)
set_cases (z ∷ xs) (suc k) zero y x e = inr ((λ p. omega arith), e)
set_cases (z ∷ xs) (suc k) (suc j) y x e = elim (set_cases xs k j y x e) [ inl a ↦ inl (ap suc a.0, a.1) | inr b ↦ inr ((λ p. b.0 (omega arith)), b.1) ]

-- an item of a list in which one item was written
pub at_set_cases : {X : Type 0} (xs : List X) (k j : ℕ) (y x : X) → 1 ≤ k → At (slice_set xs (k - 1) y) j x → ((k ≡ j) × (x ≡ y)) ⊎ ((k ≡ j → ⊥) × At xs j x)
at_set_cases xs k j y x l a =
    elim (set_cases xs (k - 1) (j - 1) y x a.1) [
      | inl s ↦ inl (omega (arith, s.0, l, a.0), s.1)
      | inr o ↦ inr ((λ p. o.0 (omega (arith, p))), (a.0, o.1))
    ]

pub get_long : {X : Type 0} (xs : List X) (k : ℕ) (x : X) → slice_get xs k ≡ Some x → k < length xs
get_long [] k x e = absurd (cc)
get_long (y ∷ xs) zero x e = omega arith
get_long (y ∷ xs) (suc k) x e = let l = get_long xs k x e in omega arith

-- a number that an item has is one of the list's
pub at_between : {X : Type 0} (xs : List X) (k : ℕ) (x : X) → At xs k x → IsBetween 1 k (length xs)
at_between xs k x a = (a.0, (let l = get_long xs (k - 1) x a.1 in omega (arith, l, a.0)))

pub get_there : {X : Type 0} (xs : List X) (k : ℕ) (d : X) → k < length xs → slice_get xs k ≡ Some (get_or xs k d)
get_there [] k d l = absurd (omega arith)
get_there (y ∷ xs) zero d l = refl
get_there (y ∷ xs) (suc k) d l = get_there xs k d (omega arith)

-- what was read at a place
pub at_read : {X : Type 0} (xs : List X) (k : ℕ) (x d : X) → IsBetween 1 k (length xs) → x ≡ get_or xs (k - 1) d → At xs k x
at_read xs k x d l e = (l.0, get_there xs (k - 1) d (omega (arith, l.0, l.1)) ∙ ap (λ y. Some y) (sym e))

pub pushed_cases : {X : Type 0} (xs : List X) (y x : X) → Contains (xs ++ (y ∷ [])) x → Contains xs x ⊎ (x ≡ y)
pushed_cases xs y x c = elim (Contains-append_cases xs (y ∷ []) x c) [ inl a ↦ inl a | inr b ↦ inr (only b) ]
  where
    only : Contains (y ∷ []) x → x ≡ y
    only (zero, l, e) = sym e
    only (suc k, l, e) = absurd (omega arith)

-- the first ones of more
pub taken_more : {X : Type 0} (m n : ℕ) (xs : List X) (x : X) → m ≤ n → Contains (take m xs) x → Contains (take n xs) x
taken_more zero n xs x l (k, b, e) = absurd (omega arith)
taken_more (suc m) zero xs x l c = absurd (omega arith)
taken_more (suc m) (suc n) [] x l c = c
taken_more (suc m) (suc n) (y ∷ xs) x l (zero, b, e) = (zero, omega arith, e)
taken_more (suc m) (suc n) (y ∷ xs) x l (suc k, b, e) = deeper (taken_more m n xs x (omega arith) (k, omega arith, e))
  where
    deeper : Contains (take n xs) x → Contains (y ∷ take n xs) x
    deeper (i, c, f) = (suc i, omega arith, f)

-- what was looked up in a list
pub looked_up : {X : Type 0} (xs ys : List X) (i : ℕ) (x d : X) → ys ≡ xs → true ≡ nat_lt i (length ys) → x ≡ get_or ys i d → (i < length xs) × (slice_get xs i ≡ Some x)
looked_up {X} xs ys i x d e l q =
    let k : i < length ys = ltb-true i (length ys) (sym l) in
    (subst (λ (zs : List X). i < length zs) e k, subst (λ (zs : List X). slice_get zs i ≡ Some x) e (get_there ys i d k ∙ ap (λ y. Some y) (sym q)))

-- what stands where in a list that was pushed to
pub get_push_cases : {X : Type 0} (xs : List X) (y x : X) (j : ℕ) → slice_get (xs ++ (y ∷ [])) j ≡ Some x → (slice_get xs j ≡ Some x) ⊎ ((j ≡ length xs) × (x ≡ y))
get_push_cases [] y x zero e = inr (refl, some_same y x e)
get_push_cases [] y x (suc j) e = absurd (cc)
get_push_cases (z ∷ xs) y x zero e = inl e
get_push_cases (z ∷ xs) y x (suc j) e = elim (get_push_cases xs y x j e) [ inl a ↦ inl a | inr b ↦ inr (ap suc b.0, b.1) ]

-- an item that was written
pub get_set : {X : Type 0} (xs : List X) (k : ℕ) (y : X) → k < length xs → slice_get (slice_set xs k y) k ≡ Some y
get_set [] k y l = absurd (omega (arith, l))
get_set (z ∷ xs) zero y l = refl
get_set (z ∷ xs) (suc k) y l = get_set xs k y (omega (arith, l))
