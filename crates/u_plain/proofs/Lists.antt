-- Parts of a list, and going over it: what holds of each member so far, and what a list of firings
-- holds so far.
use Rattle.std.proofs.Common.{◌≡◌, ◌↔◌, inl, inr, ℕ, ◌<◌, ◌≤◌, ◌+◌, List, [], ◌∷◌, ◌++◌, sym, subst, take, length, get_or, Contains, true, false}
use Rattle.std.proofs.lemmas.List.{take_more, take_all}
use Rattle.std.proofs.lemmas.List.Elements.{Contains-append_cases, Contains-append_left, Contains-append_right}
use Rattle.u_base.specs.Firing.{System, Held}
use Rattle.u_base.proofs.Held.{Held-push, Held-nil}
use Rattle.u_base.proofs.Member.{Contains-nil, Contains-head, Contains-cons_cases}

pub each_all : {X : Type 0} (P : X → Type 0) (xs : List X) (i : ℕ) → length xs ≤ i → ((x : X) → Contains (take i xs) x → P x) → (x : X) → Contains xs x → P x
each_all P xs i h all x m = all x (rw (take_all i xs h) m)

module _ {E F : Type 0} (s : System E F) where
  pub held_first : (fs : List F) (all : List E) → all ≡ s.start ∷ [] → (e : E) → Contains all e ↔ Held s (take 0 fs) e
  held_first fs all q e = (to, back)
    where
      to : Contains all e → Held s [] e
      to m = elim (Contains-cons_cases s.start e [] (subst (λ (xs : List E). Contains xs e) q m)) [ inl p ↦ inl (sym p) | inr n ↦ absurd (Contains-nil e n) ]

      back : Held s [] e → Contains all e
      back h = subst (λ (xs : List E). Contains xs e) (sym q) (subst (λ (x : E). Contains (s.start ∷ []) x) (sym (Held-nil s e h)) (Contains-head s.start []))

  pub held_more : (fs : List F) (i : ℕ) (f : F) (old given new : List E) → i < length fs → f ≡ get_or fs i f → given ≡ s.gives f → new ≡ old ++ given
      → ((e : E) → Contains old e ↔ Held s (take i fs) e) → (e : E) → Contains new e ↔ Held s (take (i + 1) fs) e
  held_more fs i f old given new l q g n before e = rw (take_more fs i f l, ← q, n, g) (to, back)
    where
      to : Contains (old ++ s.gives f) e → Held s (take i fs ++ f ∷ []) e
      to m = (Held-push s (take i fs) f e).1 (elim (Contains-append_cases old (s.gives f) e m) [ inl a ↦ inl ((before e).0 a) | inr b ↦ inr b ])

      back : Held s (take i fs ++ f ∷ []) e → Contains (old ++ s.gives f) e
      back h =
          elim ((Held-push s (take i fs) f e).0 h)
          [ inl a ↦ Contains-append_left old (s.gives f) e ((before e).1 a) | inr b ↦ Contains-append_right old (s.gives f) e b ]

  pub held_all : (fs : List F) (i : ℕ) (all : List E) → length fs ≤ i → ((e : E) → Contains all e ↔ Held s (take i fs) e) → (e : E) → Contains all e ↔ Held s fs e
  held_all fs i all h before e = rw (take_all i fs h) at (before e)

pub false_true : {X : Type 0} → false ≡ true → X
false_true e = absurd (cc)
