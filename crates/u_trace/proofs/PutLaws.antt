-- What putting one key makes of the places.
use Rattle.std.proofs.Common.{◌≡◌, ℕ, [], ◌∷◌, Bool, true, false, cond, ◌⊎◌, inl, inr, refl, sym, subst, ◌∙◌, ap, Option, Some, None}
use Rattle.std.specs.Prelude.{Contains}
use Rattle.std.specs.Cmp.{IsEquivalence}
use Rattle.u_base.proofs.Member.{Contains-nil, Contains-head, Contains-cons_cases}
use Rattle.u_trace.specs.Givers.{Notes}

module _ {K : Type 0} (eq : K → K → Bool) (o : IsEquivalence eq) (f g : K → Option ℕ) (key : K) (place : ℕ) (puts : (q : K) → g q ≡ cond (eq key q) (Some place) (f q)) where
  pub put_here : g key ≡ Some place
  put_here = puts key ∙ ap (λ (b : Bool). cond b (Some place) (f key)) (o.refl key)

  pub put_others : ((a b : K) → eq a b ≡ true → a ≡ b) → (q : K) → (key ≡ q → ⊥) → g q ≡ f q
  put_others exact q n = at (eq key q) refl
    where
      at : (b : Bool) → eq key q ≡ b → g q ≡ f q
      at true e = absurd (n (exact key q e))
      at false e = puts q ∙ ap (λ (b : Bool). cond b (Some place) (f q)) e

module _ {E : Type 0} (same : (x y : E) → (x ≡ y) ⊎ (x ≡ y → ⊥)) (old new : E → Option ℕ) (y : E) (p : ℕ) where
  -- an entry that had no place
  pub notes_new : old y ≡ None → new y ≡ Some p → ((q : E) → (y ≡ q → ⊥) → new q ≡ old q) → Notes old (y ∷ []) p new
  notes_new none here others = record { kept = λ x k e. kept x k e (same y x); got = λ x k e. got x k e (same y x); all = λ x m e. all x e (Contains-cons_cases y x [] m) }
    where
      kept : (x : E) (k : ℕ) → old x ≡ Some k → (y ≡ x) ⊎ (y ≡ x → ⊥) → new x ≡ Some k
      kept x k e (inl q) = let h = subst (λ (z : E). old z ≡ None) q none in absurd (cc)
      kept x k e (inr n) = others x n ∙ e

      got : (x : E) (k : ℕ) → new x ≡ Some k → (y ≡ x) ⊎ (y ≡ x → ⊥) → (old x ≡ Some k) ⊎ (Contains (y ∷ []) x × (old x ≡ None) × (p ≡ k))
      got x k e (inl q) =
          let h = subst (λ (z : E). new z ≡ Some p) q here in
          inr (subst (Contains (y ∷ [])) q (Contains-head y []), subst (λ (z : E). old z ≡ None) q none, let r : p ≡ k = cc in r)
      got x k e (inr n) = inl (sym (others x n) ∙ e)

      all : (x : E) → new x ≡ None → (y ≡ x) ⊎ Contains [] x → ⊥
      all x e (inl q) = let h = subst (λ (z : E). new z ≡ Some p) q here in cc
      all x e (inr n) = Contains-nil x n

  -- one that had one
  pub notes_still : (k : ℕ) → old y ≡ Some k → Notes old (y ∷ []) p old
  notes_still k has = record { kept = λ x j e. e; got = λ x j e. inl e; all = λ x m e. all x e (Contains-cons_cases y x [] m) }
    where
      all : (x : E) → old x ≡ None → (y ≡ x) ⊎ Contains [] x → ⊥
      all x e (inl q) = let h = subst (λ (z : E). old z ≡ None) (sym q) e in cc
      all x e (inr n) = Contains-nil x n
