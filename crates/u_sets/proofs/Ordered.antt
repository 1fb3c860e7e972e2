-- Two ascending lists with the same members are the same list.
use Rattle.std.proofs.Common.{◌≡◌, List, [], ◌∷◌, inl, inr, refl, sym, subst, ◌∙◌}
use Rattle.std.specs.Prelude.{Contains}
use Rattle.u_base.specs.Firing.{Same}
use Rattle.u_sets.specs.Rising.{Ascending}
use Rattle.u_base.proofs.Member.{Contains-nil, Contains-head, Contains-tail, Contains-cons_cases}

module _ {X : Type 0} (lt : X → X → Type 0) (irreflexive : (x : X) → lt x x → ⊥) (transitive : (x y z : X) → lt x y → lt y z → lt x z) where
  same_head : (x y : X) (xs ys : List X) → Ascending lt (x ∷ xs) → Ascending lt (y ∷ ys) → Same (Contains (x ∷ xs)) (Contains (y ∷ ys)) → x ≡ y
  same_head x y xs ys a b s =
      elim (Contains-cons_cases y x ys ((s x).0 (Contains-head x xs))) [
        | inl e ↦ sym e
        | inr m ↦ elim (Contains-cons_cases x y xs ((s y).1 (Contains-head y ys)))
            [ inl e ↦ e | inr n ↦ absurd (irreflexive x (transitive x y x (a.0 y n) (b.0 x m))) ]
      ]

  rest_in : (x y : X) (xs ys : List X) → Ascending lt (x ∷ xs) → x ≡ y → ((z : X) → Contains (x ∷ xs) z → Contains (y ∷ ys) z) → (z : X) → Contains xs z → Contains ys z
  rest_in x y xs ys a e s z m =
      elim (Contains-cons_cases y z ys (s z (Contains-tail x z xs m)))
      [ inl p ↦ absurd (irreflexive x (subst (λ (w : X). lt x w) (sym (e ∙ p)) (a.0 z m))) | inr n ↦ n ]

  pub same_list : (xs ys : List X) → Ascending lt xs → Ascending lt ys → Same (Contains xs) (Contains ys) → xs ≡ ys
  same_list [] [] a b s = refl
  same_list [] (y ∷ ys) a b s = absurd (Contains-nil y ((s y).1 (Contains-head y ys)))
  same_list (x ∷ xs) [] a b s = absurd (Contains-nil x ((s x).0 (Contains-head x xs)))
  same_list (x ∷ xs) (y ∷ ys) a b s =
      let e = same_head x y xs ys a b s in
      let r : xs ≡ ys = same_list xs ys a.1 b.1 (λ z. (rest_in x y xs ys a e (λ w. (s w).0) z, rest_in y x ys xs b (sym e) (λ w. (s w).1) z)) in
      cc
