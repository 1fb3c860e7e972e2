-- Lists that stand the other way round, so that their first item comes off the end.
use Rattle.std.proofs.Common.{◌≡◌, ◌↔◌, ℕ, zero, suc, length-append, ◌<◌, ◌∙◌, List, [], ◌∷◌, ◌++◌, Option, Some, None, IfSome, option_to_list, reverse, length, slice_get, ◌-◌, ap, sym, refl, subst, arith}
use Rattle.std.specs.Prelude.{Contains}
use Rattle.std.proofs.lemmas.List.{reverse-reverse, reverse-append}
use Rattle.std.proofs.lemmas.List.Sorted.{IsPermutation-reverse, Contains-permutation}

-- what comes off the end was first
pub popped : {X : Type 0} (o : Option X) (old new : List X) → old ≡ new ++ option_to_list o → IfSome o (λ x. reverse old ≡ x ∷ reverse new)
popped None old new e = tt
popped (Some x) old new e = ap reverse e ∙ reverse-append new (x ∷ [])

-- what goes to the end comes first
pub pushed : {X : Type 0} (old new : List X) (x : X) → new ≡ old ++ x ∷ [] → reverse new ≡ x ∷ reverse old
pushed old new x e = ap reverse e ∙ reverse-append old (x ∷ [])

-- a list of at most one item is as it was
pub alone : {X : Type 0} (xs : List X) → length xs < 2 → reverse xs ≡ xs
alone [] l = refl
alone (x ∷ []) l = refl
alone (x ∷ y ∷ xs) l = absurd (omega (arith, l))

pub twice : {X : Type 0} (xs ys : List X) → ys ≡ reverse xs → reverse ys ≡ xs
twice xs ys e = ap reverse e ∙ reverse-reverse xs

pub nil_turned : {X : Type 0} (xs : List X) → reverse xs ≡ [] → xs ≡ []
nil_turned xs e = sym (reverse-reverse xs) ∙ ap reverse e

-- it has the same items
pub same_items : {X : Type 0} (xs : List X) (x : X) → Contains xs x ↔ Contains (reverse xs) x
same_items {X} xs x =
    (Contains-permutation xs (reverse xs) x (IsPermutation-reverse xs), λ m. subst (λ (ys : List X). Contains ys x) (reverse-reverse xs) (Contains-permutation (reverse xs) (reverse (reverse xs)) x (IsPermutation-reverse (reverse xs)) m))

stands_at : {X : Type 0} (xs : List X) (x : X) (n : ℕ) → n ≡ length xs → slice_get (xs ++ x ∷ []) n ≡ Some x
stands_at [] x zero e = refl
stands_at [] x (suc n) e = absurd (omega (arith, e))
stands_at (y ∷ xs) x zero e = absurd (omega (arith, e))
stands_at (y ∷ xs) x (suc n) e = stands_at xs x n (omega (arith, e))

at_end : {X : Type 0} (xs : List X) (x : X) → slice_get (xs ++ x ∷ []) (length (xs ++ x ∷ []) - 1) ≡ Some x
at_end xs x = stands_at xs x (length (xs ++ x ∷ []) - 1) (omega (arith, length-append xs (x ∷ [])))

last_of : {X : Type 0} (ys xs : List X) → xs ≡ reverse ys → slice_get xs (length xs - 1) ≡ slice_get ys 0
last_of {X} [] xs e = ap (λ (zs : List X). slice_get zs (length zs - 1)) e
last_of {X} (y ∷ ys) xs e = ap (λ (zs : List X). slice_get zs (length zs - 1)) (e ∙ reverse-append (y ∷ []) ys) ∙ at_end (reverse ys) y

-- what stands last was first
pub last_is : {X : Type 0} (xs : List X) → slice_get xs (length xs - 1) ≡ slice_get (reverse xs) 0
last_is xs = last_of (reverse xs) xs (sym (reverse-reverse xs))
