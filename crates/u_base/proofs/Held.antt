-- What a list of firings holds, and lists of firings that follow one another.
use Rattle.std.proofs.Common.{◌≡◌, ℕ, zero, suc, List, [], ◌∷◌, ◌++◌, ◌⊎◌, inl, inr, refl, sym, take, Some, append_assoc, append-nil, subst}
use Rattle.std.specs.Prelude.{Contains, slice_get, ◌↔◌}
use Rattle.std.proofs.lemmas.List.Elements.{Contains-append_left, Contains-append_right, Contains-append_cases}
use Rattle.std.proofs.lemmas.Option.{same_Some}
use Rattle.u_base.specs.Firing.{System, Held, Enabled, Derivation, Follows}
use Rattle.u_base.proofs.Member.{Contains-nil, Contains-head, Contains-cons_cases}

module _ {E F : Type 0} (s : System E F) where
  pub Held-start : (fs : List F) → Held s fs s.start
  Held-start fs = inl refl

  pub Held-nil : (e : E) → Held s [] e → e ≡ s.start
  Held-nil e (inl p) = p
  Held-nil e (inr (f, m, g)) = absurd (Contains-nil f m)

  pub Held-of : (fs gs : List F) → ((f : F) → Contains fs f → Contains gs f) → (e : E) → Held s fs e → Held s gs e
  Held-of fs gs sub e (inl p) = inl p
  Held-of fs gs sub e (inr (f, m, g)) = inr (f, sub f m, g)

  pub Held-append_left : (fs gs : List F) (e : E) → Held s fs e → Held s (fs ++ gs) e
  Held-append_left fs gs e h = Held-of fs (fs ++ gs) (λ f m. Contains-append_left fs gs f m) e h

  pub Held-append_right : (fs gs : List F) (e : E) → Held s gs e → Held s (fs ++ gs) e
  Held-append_right fs gs e h = Held-of gs (fs ++ gs) (λ f m. Contains-append_right fs gs f m) e h

  pub Held-append_cases : (fs gs : List F) (e : E) → Held s (fs ++ gs) e → Held s fs e ⊎ Held s gs e
  Held-append_cases fs gs e (inl p) = inl (inl p)
  Held-append_cases fs gs e (inr (f, m, g)) =
      elim (Contains-append_cases fs gs f m) [ inl a ↦ inl (inr (f, a, g)) | inr b ↦ inr (inr (f, b, g)) ]

  -- a further firing adds what it gives, and nothing else
  pub Held-push : (fs : List F) (f : F) (e : E) → Held s (fs ++ f ∷ []) e ↔ (Held s fs e ⊎ Contains (s.gives f) e)
  Held-push fs f e = (to fs f e, from_parts fs f e)
    where
      given : (f : F) (e : E) → Held s (f ∷ []) e → Held s [] e ⊎ Contains (s.gives f) e
      given f e (inl p) = inl (inl p)
      given f e (inr (g, m, c)) =
          elim (Contains-cons_cases f g [] m) [ inl p ↦ inr (subst (λ x. Contains (s.gives x) e) (sym p) c) | inr n ↦ absurd (Contains-nil g n) ]

      to : (fs : List F) (f : F) (e : E) → Held s (fs ++ f ∷ []) e → Held s fs e ⊎ Contains (s.gives f) e
      to fs f e h =
          elim (Held-append_cases fs (f ∷ []) e h) [ inl a ↦ inl a | inr b ↦ elim (given f e b) [ inl p ↦ inl (inl (Held-nil e p)) | inr c ↦ inr c ] ]

      from_parts : (fs : List F) (f : F) (e : E) → Held s fs e ⊎ Contains (s.gives f) e → Held s (fs ++ f ∷ []) e
      from_parts fs f e (inl h) = Held-append_left fs (f ∷ []) e h
      from_parts fs f e (inr c) = inr (f, Contains-append_right fs (f ∷ []) f (Contains-head f []), c)

  pub Enabled-mono : (H K : E → Type 0) → ((e : E) → H e → K e) → (f : F) → Enabled s H f → Enabled s K f
  Enabled-mono H K sub f en = (en.0, λ e n. sub e (en.1 e n))

  -- the same firings may follow where more is held
  pub Follows-mono : (done more fs : List F) → ((e : E) → Held s done e → Held s more e) → Follows s done fs → Follows s more fs
  Follows-mono done more [] sub d = tt
  Follows-mono done more (f ∷ fs) sub d =
      (Enabled-mono (Held s done) (Held s more) sub f d.0, Follows-mono (done ++ f ∷ []) (more ++ f ∷ []) fs (λ e h. grown e ((Held-push done f e).0 h)) d.1)
    where
      grown : (e : E) → Held s done e ⊎ Contains (s.gives f) e → Held s (more ++ f ∷ []) e
      grown e (inl h) = (Held-push more f e).1 (inl (sub e h))
      grown e (inr c) = (Held-push more f e).1 (inr c)

  pub Follows-append : (done fs gs : List F) → Follows s done fs → Follows s (done ++ fs) gs → Follows s done (fs ++ gs)
  Follows-append done [] gs d k = rw append-nil at k
  Follows-append done (f ∷ fs) gs d k = (d.0, Follows-append (done ++ f ∷ []) fs gs d.1 (rw append_assoc k))

  -- place by place, and one after another
  pub Follows-at : (done fs : List F) → Follows s done fs → (k : ℕ) (f : F) → slice_get fs k ≡ Some f → Enabled s (Held s (done ++ take k fs)) f
  Follows-at done [] d k f e = absurd (cc)
  Follows-at done (g ∷ fs) d zero f e = rw append-nil (subst (λ x. Enabled s (Held s done) x) (same_Some g f e) d.0)
  Follows-at done (g ∷ fs) d (suc k) f e = rw append_assoc at (Follows-at (done ++ g ∷ []) fs d.1 k f e)

  pub Follows-from_at : (done fs : List F) → ((k : ℕ) (f : F) → slice_get fs k ≡ Some f → Enabled s (Held s (done ++ take k fs)) f) → Follows s done fs
  Follows-from_at done [] a = tt
  Follows-from_at done (f ∷ fs) a = (rw append-nil at (a 0 f refl), Follows-from_at (done ++ f ∷ []) fs (λ k g e. rw append_assoc (a (suc k) g e)))

  pub Derivation-from_Follows : (fs : List F) → Follows s [] fs → Derivation s fs
  Derivation-from_Follows fs d = record { each = Follows-at [] fs d }

  pub Follows-from_Derivation : (fs : List F) → Derivation s fs → Follows s [] fs
  Follows-from_Derivation fs d = Follows-from_at [] fs d.each
