-- Lists without repeats.
use Rattle.std.proofs.Common.{List, [], ◌∷◌, ◌++◌, inl, inr, sym, subst, append-nil}
use Rattle.std.specs.Prelude.{Contains}
use Rattle.std.proofs.lemmas.List.Elements.{Contains-append_left, Contains-append_right, Contains-append_cases}
use Rattle.u_base.specs.Firing.{Distinct}
use Rattle.u_base.proofs.Member.{Contains-nil, Contains-head, Contains-tail, Contains-cons_cases}

-- an element in the midst may be taken out and put in
pub Distinct-take_out : {X : Type 0} (xs ys : List X) (x : X) → Distinct (xs ++ x ∷ ys) → (Contains (xs ++ ys) x → ⊥) × Distinct (xs ++ ys)
Distinct-take_out [] ys x d = (d.0, d.1)
Distinct-take_out {X} (z ∷ xs) ys x d =
    let r = Distinct-take_out xs ys x d.1 in (
      (λ m. elim (Contains-cons_cases z x (xs ++ ys) m) [ inl e ↦ d.0 (subst (λ (w : X). Contains (xs ++ x ∷ ys) w) (sym e) (Contains-append_right xs (x ∷ ys) x (Contains-head x ys))) | inr n ↦ r.0 n ]),
      ((λ m. d.0 (elim (Contains-append_cases xs ys z m) [ inl a ↦ Contains-append_left xs (x ∷ ys) z a | inr b ↦ Contains-append_right xs (x ∷ ys) z (Contains-tail x z ys b) ])), r.1),
    )

pub Distinct-put_in : {X : Type 0} (xs ys : List X) (x : X) → (Contains (xs ++ ys) x → ⊥) → Distinct (xs ++ ys) → Distinct (xs ++ x ∷ ys)
Distinct-put_in [] ys x n d = (n, d)
Distinct-put_in {X} (z ∷ xs) ys x n d = (
  (λ m. elim (Contains-append_cases xs (x ∷ ys) z m) [
    | inl a ↦ d.0 (Contains-append_left xs ys z a)
    | inr b ↦ elim (Contains-cons_cases x z ys b)
        [ inl e ↦ n (subst (λ (w : X). Contains (z ∷ xs ++ ys) w) (sym e) (Contains-head z (xs ++ ys))) | inr k ↦ d.0 (Contains-append_right xs ys z k) ]
  ]),
  Distinct-put_in xs ys x (λ m. n (Contains-tail z x (xs ++ ys) m)) d.1,
)

pub Distinct-push : {X : Type 0} (xs : List X) (x : X) → (Contains xs x → ⊥) → Distinct xs → Distinct (xs ++ x ∷ [])
Distinct-push xs x n d = Distinct-put_in xs [] x (λ m. n (rw append-nil at m)) (rw append-nil d)

pub Distinct-left : {X : Type 0} (xs ys : List X) → Distinct (xs ++ ys) → Distinct xs
Distinct-left [] ys d = tt
Distinct-left (x ∷ xs) ys d = ((λ m. d.0 (Contains-append_left xs ys x m)), Distinct-left xs ys d.1)

pub Distinct-apart : {X : Type 0} (xs ys : List X) (x : X) → Distinct (xs ++ ys) → Contains xs x → Contains ys x → ⊥
Distinct-apart [] ys x d a b = Contains-nil x a
Distinct-apart {X} (z ∷ xs) ys x d a b =
    elim (Contains-cons_cases z x xs a) [ inl e ↦ d.0 (subst (λ (w : X). Contains (xs ++ ys) w) (sym e) (Contains-append_right xs ys x b)) | inr k ↦ Distinct-apart xs ys x d.1 k b ]
