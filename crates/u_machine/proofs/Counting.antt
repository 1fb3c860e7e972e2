-- How many members lists without repeats have.
use Rattle.std.proofs.Common.{◌≡◌, ◌≤◌, List, [], ◌∷◌, ◌++◌, inl, inr, length, arith, subst, sym, length-append, ap, refl}
use Rattle.std.specs.Prelude.{Contains}
use Rattle.std.proofs.lemmas.List.Elements.{Contains-append_left, Contains-append_right, Contains-append_cases}
use Rattle.u_base.specs.Firing.{Distinct}
use Rattle.u_base.proofs.Member.{Contains-nil, Contains-head, Contains-tail, Contains-cons_cases}

-- a list with that member, taken apart there
pub split_at : {X : Type 0} (ys : List X) (x : X) → Contains ys x → (left : List X) × (right : List X) × (ys ≡ left ++ x ∷ right)
split_at [] x m = absurd (Contains-nil x m)
split_at {X} (y ∷ ys) x m = elim (Contains-cons_cases y x ys m) [ inl e ↦ ([], ys, subst (λ (z : X). y ∷ ys ≡ z ∷ ys) e refl) | inr k ↦ behind (split_at ys x k) ]
  where
    behind : ((left : List X) × (right : List X) × (ys ≡ left ++ x ∷ right)) → (left : List X) × (right : List X) × (y ∷ ys ≡ left ++ x ∷ right)
    behind (left, right, e) = (y ∷ left, right, ap (λ (zs : List X). y ∷ zs) e)

-- without the first, the others of a list without repeats lie in what is left of the other list
beside_first : {X : Type 0} (x : X) (xs ys left right : List X) → Distinct (x ∷ xs) → ((z : X) → Contains (x ∷ xs) z → Contains ys z) → ys ≡ left ++ x ∷ right → (z : X) → Contains xs z → Contains (left ++ right) z
beside_first {X} x xs ys left right d within e z m =
    elim (Contains-append_cases left (x ∷ right) z (rw e at within z (Contains-tail x z xs m))) [
      | inl a ↦ Contains-append_left left right z a
      | inr b ↦ elim (Contains-cons_cases x z right b) [ inl p ↦ absurd (d.0 (subst (λ (w : X). Contains xs w) (sym p) m)) | inr c ↦ Contains-append_right left right z c ]
    ]

-- the members of one list without repeats that lie in another are no more than that has
pub no_more : {X : Type 0} (xs ys : List X) → Distinct xs → ((x : X) → Contains xs x → Contains ys x) → length xs ≤ length ys
no_more [] ys d within = omega arith
no_more {X} (x ∷ xs) ys d within =
    let (left, right, e) = split_at ys x (within x (Contains-head x xs)) in
    let n = no_more xs (left ++ right) d.1 (beside_first x xs ys left right d within e) in
    let a = length-append left (x ∷ right) in
    let b = length-append left right in
    let c = ap length e in
    omega (arith, n)

-- where the other list is no longer, it has no others
pub all_there : {X : Type 0} (xs ys : List X) → Distinct xs → ((x : X) → Contains xs x → Contains ys x) → length ys ≤ length xs → (x : X) → Contains ys x → Contains xs x
all_there [] [] d within few z m = m
all_there [] (y ∷ ys) d within few z m = absurd (omega (arith, few))
all_there {X} (x ∷ xs) ys d within few z m =
    let (left, right, e) = split_at ys x (within x (Contains-head x xs)) in
    let a = length-append left (x ∷ right) in
    let b = length-append left right in
    let c = ap length e in
    let rest = all_there xs (left ++ right) d.1 (beside_first x xs ys left right d within e) (omega (arith, few)) in
    elim (Contains-append_cases left (x ∷ right) z (rw e at m)) [
      | inl l ↦ Contains-tail x z xs (rest z (Contains-append_left left right z l))
      | inr r ↦ elim (Contains-cons_cases x z right r) [ inl p ↦ subst (λ (w : X). Contains (x ∷ xs) w) p (Contains-head x xs) | inr k ↦ Contains-tail x z xs (rest z (Contains-append_right left right z k)) ]
    ]

pub Distinct-right : {X : Type 0} (xs ys : List X) → Distinct (xs ++ ys) → Distinct ys
Distinct-right [] ys d = d
Distinct-right (x ∷ xs) ys d = Distinct-right xs ys d.1
