-- What a set of keys that are found by equality has, and what puts and removals make of it.
use Rattle.std.proofs.Common.{◌≡◌, ◌↔◌, ◌⊎◌, inl, inr, List, [], ◌∷◌, Bool, true, false, cond, ◌||◌, IsTrue, Contains, subst, sym, ◌∙◌, ap, refl, Ordering, not}
use Rattle.std.specs.Cmp.{IsEquivalence, Equal-is}
use Rattle.std.specs.List.{list_any}
use Rattle.std.proofs.lemmas.Bool.{or_cases, or_right}
use Rattle.std.specs.Ordering.{is_eq}
use Rattle.u_base.proofs.Member.{Contains-nil, Contains-head, Contains-tail, Contains-cons_cases}
use Rattle.u_base.specs.Exact.{IsExact}
use Rattle.u_sets.specs.Members.{IsWith, IsWithout}

-- where only a thing itself ties with it, only it is equal to it
pub exactly : {X : Type 0} (E : X → X → Bool) (R : X → X → Ordering) → IsExact R → ((a b : X) → E a b ≡ is_eq (R a b)) → (a b : X) → E a b ≡ true → a ≡ b
exactly E R exact ties a b e = exact a b ((Equal-is (R a b)).0 (sym (ties a b) ∙ e))

module _ {X : Type 0} (E : X → X → Bool) (o : IsEquivalence E) (exact : (a b : X) → E a b ≡ true → a ≡ b) where
  pub found : (xs : List X) (x : X) → list_any (E x) xs ≡ true → Contains xs x
  found [] x h = cc
  found (y ∷ ys) x h =
      elim (or_cases (E x y) (list_any (E x) ys) h) [
        | inl e ↦ subst (λ (z : X). Contains (y ∷ ys) z) (sym (exact x y e)) (Contains-head y ys)
        | inr k ↦ Contains-tail y x ys (found ys x k)
      ]

  itself : (x y : X) → x ≡ y → E x y ≡ true
  itself x y e = subst (λ (z : X). E x z ≡ true) e (o.refl x)

  pub finds : (xs : List X) (x : X) → Contains xs x → list_any (E x) xs ≡ true
  finds [] x m = absurd (Contains-nil x m)
  finds (y ∷ ys) x m =
      elim (Contains-cons_cases y x ys m) [
        | inl e ↦ ap (λ t. t || list_any (E x) ys) (itself x y (sym e))
        | inr k ↦ or_right (E x y) (list_any (E x) ys) (finds ys x k)
      ]

  -- whether x was not there
  pub was_new : (xs : List X) (x : X) (b : Bool) → b ≡ not (list_any (E x) xs) → IsTrue b ↔ (Contains xs x → ⊥)
  was_new xs x b h = at (list_any (E x) xs) refl
    where
      at : (t : Bool) → list_any (E x) xs ≡ t → IsTrue b ↔ (Contains xs x → ⊥)
      at true e = let f : b ≡ false = h ∙ ap not e in ((λ g. cc), λ n. absurd (n (found xs x e)))
      at false e = let f : b ≡ true = h ∙ ap not e in ((λ g m. let k = finds xs x m in cc), λ n. f)

  -- the set with x besides
  pub puts : (xs ys : List X) (x : X) → ((q : X) → list_any (E q) ys ≡ cond (E x q) true (list_any (E q) xs)) → IsWith xs x ys
  puts xs ys x new z = at (E x z) refl
    where
      at : (t : Bool) → E x z ≡ t → Contains ys z ↔ (Contains xs z ⊎ (x ≡ z))
      at true e = ((λ m. inr (exact x z e)), λ s. found ys z (new z ∙ ap (λ (b : Bool). cond b true (list_any (E z) xs)) e))
      at false e = (
        (λ m. inl (found xs z (sym (new z ∙ ap (λ (b : Bool). cond b true (list_any (E z) xs)) e) ∙ finds ys z m))),
        λ s. elim s [
          | inl m ↦ found ys z (new z ∙ ap (λ (b : Bool). cond b true (list_any (E z) xs)) e ∙ finds xs z m)
          | inr p ↦ let t = itself x z p in cc
        ],
      )

  -- the set without x
  pub removes : (xs ys : List X) (x : X) → ((q : X) → list_any (E q) ys ≡ cond (E x q) false (list_any (E q) xs)) → IsWithout xs x ys
  removes xs ys x new = record { less = less; gone = gone; rest = rest }
    where
      same : (z : X) → E x z ≡ false → list_any (E z) ys ≡ list_any (E z) xs
      same z e = new z ∙ ap (λ (b : Bool). cond b false (list_any (E z) xs)) e

      out : (z : X) → E x z ≡ true → list_any (E z) ys ≡ false
      out z e = new z ∙ ap (λ (b : Bool). cond b false (list_any (E z) xs)) e

      less : (z : X) → Contains ys z → Contains xs z
      less z m = at (E x z) refl
        where
          at : (t : Bool) → E x z ≡ t → Contains xs z
          at true e = let h = out z e in let k = finds ys z m in cc
          at false e = found xs z (sym (same z e) ∙ finds ys z m)

      gone : Contains ys x → ⊥
      gone m = let h = out x (o.refl x) in let k = finds ys x m in cc

      rest : (z : X) → Contains xs z → (x ≡ z) ⊎ Contains ys z
      rest z m = at (E x z) refl
        where
          at : (t : Bool) → E x z ≡ t → (x ≡ z) ⊎ Contains ys z
          at true e = inl (exact x z e)
          at false e = inr (found ys z (same z e ∙ finds xs z m))
