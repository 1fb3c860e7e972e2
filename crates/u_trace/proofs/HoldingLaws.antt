-- What a set holds once the firings of a list were put in, one after another.
use Rattle.std.proofs.Common.{◌≡◌, ℕ, ◌+◌, ◌<◌, ◌≤◌, List, [], ◌∷◌, ◌++◌, ◌⊎◌, inl, inr, sym, subst, take, length, get_or}
use Rattle.std.specs.Prelude.{Contains}
use Rattle.std.proofs.lemmas.List.{take_all}
use Rattle.std.proofs.lemmas.List.Elements.{Contains-append_left, Contains-push, Contains-push_cases}
use Rattle.u_base.specs.Firing.{System, Held, Same}
use Rattle.u_base.proofs.Member.{Contains-nil}
use Rattle.u_sets.specs.Members.{IsWith, IsUnion}
use Rattle.u_trace.specs.Holding.{GivenBy, GainsGiven}
use Rattle.u_trace.proofs.Lists.{next_take}

module _ {E F : Type 0} (s : System E F) where
  given_none : (e : E) → GivenBy s [] e → ⊥
  given_none e (f, m, c) = Contains-nil f m

  given_more : (fs : List F) (f : F) (e : E) → GivenBy s fs e → GivenBy s (fs ++ f ∷ []) e
  given_more fs f e (g, m, c) = (g, Contains-append_left fs (f ∷ []) g m, c)

  given_last : (fs : List F) (f : F) (e : E) → Contains (s.gives f) e → GivenBy s (fs ++ f ∷ []) e
  given_last fs f e c = (f, Contains-push fs f, c)

  given_cases : (fs : List F) (f : F) (e : E) → GivenBy s (fs ++ f ∷ []) e → GivenBy s fs e ⊎ Contains (s.gives f) e
  given_cases fs f e (g, m, c) = elim (Contains-push_cases fs f g m) [ inl k ↦ inl (g, k, c) | inr q ↦ inr (subst (λ (h : F). Contains (s.gives h) e) (sym q) c) ]

  module _ (old : List E) where
    pub gains_none : (fs : List F) → GainsGiven s old (take 0 fs) old
    gains_none fs e = ((λ m. inl m), λ p. elim p [ inl m ↦ m | inr g ↦ absurd (given_none e g) ])

    gains_push : (fs : List F) (f : F) (a given b : List E) → GainsGiven s old fs a → given ≡ s.gives f → IsUnion a given b → GainsGiven s old (fs ++ f ∷ []) b
    gains_push fs f a given b g is u e = (to, back)
      where
        over : Contains a e ⊎ Contains given e → Contains old e ⊎ GivenBy s (fs ++ f ∷ []) e
        over (inl m) = elim ((g e).0 m) [ inl o ↦ inl o | inr h ↦ inr (given_more fs f e h) ]
        over (inr m) = inr (given_last fs f e (subst (λ (xs : List E). Contains xs e) is m))

        to : Contains b e → Contains old e ⊎ GivenBy s (fs ++ f ∷ []) e
        to m = over ((u e).0 m)

        last : GivenBy s fs e ⊎ Contains (s.gives f) e → Contains b e
        last (inl h) = (u e).1 (inl ((g e).1 (inr h)))
        last (inr c) = (u e).1 (inr (subst (λ (xs : List E). Contains xs e) (sym is) c))

        back : Contains old e ⊎ GivenBy s (fs ++ f ∷ []) e → Contains b e
        back (inl o) = (u e).1 (inl ((g e).1 (inl o)))
        back (inr h) = last (given_cases fs f e h)

    pub gains_more : (fs : List F) (i : ℕ) (f : F) (a given b : List E) → i < length fs → f ≡ get_or fs i f → GainsGiven s old (take i fs) a → given ≡ s.gives f → IsUnion a given b → GainsGiven s old (take (i + 1) fs) b
    gains_more fs i f a given b l at g is u = subst (λ (gs : List F). GainsGiven s old gs b) (sym (next_take fs i f l at)) (gains_push (take i fs) f a given b g is u)

    pub gains_all : (fs : List F) (i : ℕ) (a : List E) → length fs ≤ i → GainsGiven s old (take i fs) a → GainsGiven s old fs a
    gains_all fs i a l g = subst (λ (gs : List F). GainsGiven s old gs a) (take_all i fs l) g

  -- with the start, the set has what the firings hold
  pub holds : (none one all : List E) (fs : List F) → none ≡ [] → IsWith none s.start one → GainsGiven s one fs all → Same (Contains all) (Held s fs)
  holds none one all fs q w g e = (to, back)
    where
      first : Contains none e ⊎ (s.start ≡ e) → Held s fs e
      first (inl m) = absurd (Contains-nil e (subst (λ (xs : List E). Contains xs e) q m))
      first (inr h) = inl (sym h)

      over : Contains one e ⊎ GivenBy s fs e → Held s fs e
      over (inl m) = first ((w e).0 m)
      over (inr h) = inr h

      to : Contains all e → Held s fs e
      to m = over ((g e).0 m)

      back : Held s fs e → Contains all e
      back (inl h) = (g e).1 (inl ((w e).1 (inr (sym h))))
      back (inr h) = (g e).1 (inr h)
