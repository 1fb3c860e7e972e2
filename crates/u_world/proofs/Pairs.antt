-- A list of which one item was taken out and put back.
use Rattle.std.specs.Prelude.{◌≡◌, ℕ, zero, suc, ◌-◌, ◌<◌, ◌≤◌, ◌⊎◌, List, [], ◌∷◌, length, slice_get, slice_set, Some, refl}
use Rattle.std.proofs.Common.{sym, ◌∙◌, ap, subst, arith, inl, inr, get_or}
use Rattle.u_world.proofs.Places.{get_there}
use Rattle.std.specs.List.{insert, remove}

-- the item changed
pub put_back : {X : Type 0} (xs : List X) (k : ℕ) (y : X) → k < length xs → insert (remove xs k) k y ≡ slice_set xs k y
put_back [] k y l = absurd (omega (arith, l))
put_back (x ∷ xs) zero y l = refl
put_back {X} (x ∷ xs) (suc k) y l = ap (λ (zs : List X). x ∷ zs) (put_back xs k y (omega (arith, l)))

-- one that stood behind it
get_behind : {X : Type 0} (xs : List X) (k j : ℕ) (x : X) → k < length xs → k ≤ j → slice_get (remove xs k) j ≡ Some x → slice_get xs (suc j) ≡ Some x
get_behind [] k j x t l e = absurd (omega (arith, t))
get_behind (y ∷ xs) zero j x t l e = e
get_behind (y ∷ xs) (suc k) zero x t l e = absurd (omega (arith, l))
get_behind (y ∷ xs) (suc k) (suc j) x t l e = get_behind xs k j x (omega (arith, t)) (omega (arith, l)) e

-- and one that stood before it
get_before : {X : Type 0} (xs : List X) (k j : ℕ) (x : X) → k < length xs → j < k → slice_get (remove xs k) j ≡ Some x → slice_get xs j ≡ Some x
get_before [] k j x t l e = absurd (omega (arith, t))
get_before (y ∷ xs) zero j x t l e = absurd (omega (arith, l))
get_before (y ∷ xs) (suc k) zero x t l e = e
get_before (y ∷ xs) (suc k) (suc j) x t l e = get_before xs k j x (omega (arith, t)) (omega (arith, l)) e

remove_long : {X : Type 0} (xs : List X) (k : ℕ) → k < length xs → suc (length (remove xs k)) ≡ length xs
remove_long [] k l = absurd (omega (arith, l))
remove_long (y ∷ xs) zero l = refl
remove_long (y ∷ xs) (suc k) l = ap suc (remove_long xs k (omega (arith, l)))

-- the place of another item, once one was taken out
abbrev pub IsPlaceOf : ℕ → ℕ → ℕ → Type 0
IsPlaceOf to from place = ((to < from) × (place ≡ from - 1)) ⊎ ((to < from → ⊥) × (place ≡ from))

pub other_there : {X : Type 0} (xs rest : List X) (to from place : ℕ) (x : X) → to < length xs → from < length xs → (to ≡ from → ⊥) → rest ≡ remove xs to → x ≡ get_or rest place x → IsPlaceOf to from place → slice_get xs from ≡ Some x
other_there {X} xs rest to from place x t f apart e is place_is = by place_is
  where
    read : (i : ℕ) → place ≡ i → i < length (remove xs to) → slice_get (remove xs to) i ≡ Some x
    read i p l = get_there (remove xs to) i x l ∙ ap (λ y. Some y) (sym (is ∙ ap (λ (ys : List X). get_or ys place x) e ∙ ap (λ j. get_or (remove xs to) j x) p))

    by : IsPlaceOf to from place → slice_get xs from ≡ Some x
    by (inl a) = let n = remove_long xs to t in let next : suc (from - 1) ≡ from = omega (arith, a.0) in subst (λ i. slice_get xs i ≡ Some x) next (get_behind xs to (from - 1) x t (omega (arith, a.0)) (read (from - 1) a.1 (omega (arith, n, f, a.0))))
    by (inr b) = let n = remove_long xs to t in let l : from < to = grind (arith, b.0, apart) in get_before xs to from x t l (read from b.1 (omega (arith, n, l, t)))
