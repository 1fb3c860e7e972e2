-- The closure of a set of firings: least, closed, monotone; what a settled list of firings holds.
use Rattle.std.proofs.Common.{List, [], ◌∷◌, ◌++◌, ◌⊎◌, inl, inr, sym, append_assoc, append-nil, subst}
use Rattle.std.specs.Prelude.{Contains}
use Rattle.std.proofs.lemmas.List.Elements.{Contains-append_left, Contains-append_right, Contains-append_cases, Contains-push_cases}
use Rattle.u_base.specs.Firing.{System, Held, Enabled, Closed, Derivation, Follows, Within, Cl, Whole, Same}
use Rattle.u_base.proofs.Member.{Contains-nil, Contains-head, Contains-tail, Contains-cons_cases}
use Rattle.u_base.proofs.Held.{Held-start, Held-nil, Held-append_left, Held-append_right, Held-append_cases, Held-push, Enabled-mono, Follows-mono, Follows-append, Derivation-from_Follows, Follows-from_Derivation}

module _ {E F : Type 0} (s : System E F) where
  -- what holds of all that is held and of all that firings of the list give holds of all that is held after them
  pub Follows-sound : (P : E → Type 0) (done fs : List F) → ((f : F) → Contains fs f → Enabled s P f → (e : E) → Contains (s.gives f) e → P e) → ((e : E) → Held s done e → P e) → Follows s done fs → (e : E) → Held s (done ++ fs) e → P e
  Follows-sound P done [] gives below d e h = below e (rw append-nil at h)
  Follows-sound P done (f ∷ fs) gives below d e h =
      Follows-sound P (done ++ f ∷ []) fs (λ g m. gives g (Contains-tail f g fs m)) (λ x k. grown x ((Held-push s done f x).0 k)) d.1 e (rw append_assoc h)
    where
      grown : (x : E) → Held s done x ⊎ Contains (s.gives f) x → P x
      grown x (inl k) = below x k
      grown x (inr c) = gives f (Contains-head f fs) (Enabled-mono s (Held s done) P below f d.0) x c

  pub Derivation-nil : Derivation s []
  Derivation-nil = Derivation-from_Follows s [] tt

  -- one derivation after another is a derivation
  pub Derivation-append : (fs gs : List F) → Derivation s fs → Derivation s gs → Derivation s (fs ++ gs)
  Derivation-append fs gs d k =
      Derivation-from_Follows s (fs ++ gs) (Follows-append s [] fs gs (Follows-from_Derivation s fs d) (Follows-mono s [] fs gs (λ e h. held e h) (Follows-from_Derivation s gs k)))
    where
      held : (e : E) → Held s [] e → Held s fs e
      held e h = inl (Held-nil s e h)

  -- an enabled firing extends a derivation
  pub Derivation-push : (fs : List F) (f : F) → Derivation s fs → Enabled s (Held s fs) f → Derivation s (fs ++ f ∷ [])
  Derivation-push fs f d en =
      Derivation-from_Follows s (fs ++ f ∷ []) (Follows-append s [] fs (f ∷ []) (Follows-from_Derivation s fs d) (en, tt))

  pub Within-nil : (M : F → Type 0) → Within M []
  Within-nil M f m = absurd (Contains-nil f m)

  pub Within-append : (M : F → Type 0) (fs gs : List F) → Within M fs → Within M gs → Within M (fs ++ gs)
  Within-append M fs gs a b f m = elim (Contains-append_cases fs gs f m) [ inl p ↦ a f p | inr q ↦ b f q ]

  pub Within-push : (M : F → Type 0) (fs : List F) (f : F) → Within M fs → M f → Within M (fs ++ f ∷ [])
  Within-push M fs f a h g m = elim (Contains-push_cases fs f g m) [ inl p ↦ a g p | inr q ↦ subst M q h ]

  -- the closure
  pub Cl-start : (M : F → Type 0) → Cl s M s.start
  Cl-start M = ([], Derivation-nil, Within-nil M, Held-start s [])

  pub Cl-mono : (M N : F → Type 0) → ((f : F) → M f → N f) → (e : E) → Cl s M e → Cl s N e
  Cl-mono M N sub e (fs, d, w, h) = (fs, d, (λ f m. sub f (w f m)), h)

  pub Cl-held : (M : F → Type 0) (fs : List F) → Derivation s fs → Within M fs → (e : E) → Held s fs e → Cl s M e
  Cl-held M fs d w e h = (fs, d, w, h)

  pub Cl-whole : (M : F → Type 0) (e : E) → Cl s M e → Whole s e
  Cl-whole M e (fs, d, w, h) = (fs, d, h)

  -- one derivation in M holds any list of entries each of which is held by some derivation in M
  pub Cl-together : (M : F → Type 0) (es : List E) → ((e : E) → Contains es e → Cl s M e) → (fs : List F) × Derivation s fs × Within M fs × ((e : E) → Contains es e → Held s fs e)
  Cl-together M [] all = ([], Derivation-nil, Within-nil M, λ e m. absurd (Contains-nil e m))
  Cl-together M (x ∷ es) all =
      joined (all x (Contains-head x es)) (Cl-together M es (λ e m. all e (Contains-tail x e es m)))
    where
      joined : Cl s M x → (fs : List F) × Derivation s fs × Within M fs × ((e : E) → Contains es e → Held s fs e) → (fs : List F) × Derivation s fs × Within M fs × ((e : E) → Contains (x ∷ es) e → Held s fs e)
      joined (fs, d, w, h) (gs, k, v, i) = (
        fs ++ gs,
        Derivation-append fs gs d k,
        Within-append M fs gs w v,
        λ e m. elim (Contains-cons_cases x e es m) [ inl p ↦ subst (λ y. Held s (fs ++ gs) y) p (Held-append_left s fs gs x h) | inr q ↦ Held-append_right s fs gs e (i e q) ],
      )

  -- what firings of M give that are enabled over the closure lies in it
  pub Cl-closed : (M : F → Type 0) (f : F) → M f → Enabled s (Cl s M) f → (e : E) → Contains (s.gives f) e → Cl s M e
  Cl-closed M f m en e g = fired (Cl-together M (s.needs f) en.1)
    where
      fired : (fs : List F) × Derivation s fs × Within M fs × ((x : E) → Contains (s.needs f) x → Held s fs x) → Cl s M e
      fired (fs, d, w, h) =
          (fs ++ f ∷ [], Derivation-push fs f d (en.0, h), Within-push M fs f w m, (Held-push s fs f e).1 (inr g))

  -- and it is the least such set that has the start
  pub Cl-least : (M : F → Type 0) (P : E → Type 0) → P s.start → ((f : F) → M f → Enabled s P f → (e : E) → Contains (s.gives f) e → P e) → (e : E) → Cl s M e → P e
  Cl-least M P start closed e (fs, d, w, h) =
      Follows-sound P [] fs (λ f m. closed f (w f m)) (λ x k. subst P (sym (Held-nil s x k)) start) (Follows-from_Derivation s fs d) e h

  -- a list that has each member of M that is enabled over what it holds, holds the closure
  pub Settled-has : (M : F → Type 0) (fs : List F) → ((f : F) → M f → Enabled s (Held s fs) f → Contains fs f) → (e : E) → Cl s M e → Held s fs e
  Settled-has M fs all = Cl-least M (Held s fs) (Held-start s fs) (λ f m en e g. inr (f, all f m en, g))

  pub Settled-is_Cl : (M : F → Type 0) (fs : List F) → Derivation s fs → Within M fs → ((f : F) → M f → Enabled s (Held s fs) f → Contains fs f) → Same (Held s fs) (Cl s M)
  Settled-is_Cl M fs d w all e = (Cl-held M fs d w e, Settled-has M fs all e)

  -- two settled lists whose sets are the same hold the same
  pub Settled-agree : (M N : F → Type 0) (fs gs : List F) → Same M N → Same (Held s fs) (Cl s M) → Same (Held s gs) (Cl s N) → Same (Held s fs) (Held s gs)
  Settled-agree M N fs gs same a b e =
      ((λ h. (b e).1 (Cl-mono M N (λ f. (same f).0) e ((a e).0 h))), (λ h. (a e).1 (Cl-mono N M (λ f. (same f).1) e ((b e).0 h))))

  -- where nothing outside fs is enabled, fs holds the whole history, which is closed
  pub Quiet-closed : (fs : List F) → ((f : F) → Enabled s (Held s fs) f → Contains fs f) → Closed s (Held s fs)
  Quiet-closed fs quiet f en e g = inr (f, quiet f en, g)

  pub Quiet-whole : (fs : List F) → Derivation s fs → ((f : F) → Enabled s (Held s fs) f → Contains fs f) → Same (Held s fs) (Whole s)
  Quiet-whole fs d quiet e =
      ((λ h. (fs, d, h)), (λ (gs, k, h). Settled-has (λ f. Contains gs f ⊎ Contains fs f) fs (λ f m en. quiet f en) e (gs, k, (λ f m. inl m), h)))

  -- merge
  pub Cl-left : (M N : F → Type 0) (e : E) → Cl s M e → Cl s (λ f. M f ⊎ N f) e
  Cl-left M N = Cl-mono M (λ f. M f ⊎ N f) (λ f m. inl m)

  pub Cl-right : (M N : F → Type 0) (e : E) → Cl s N e → Cl s (λ f. M f ⊎ N f) e
  Cl-right M N = Cl-mono N (λ f. M f ⊎ N f) (λ f m. inr m)

  -- where neither side has parked firings the merged history is the union
  pub Merge-union : (M N : F → Type 0) (fs gs : List F) → Derivation s fs → Derivation s gs → Same M (Contains fs) → Same N (Contains gs) → Same (Cl s (λ f. M f ⊎ N f)) (λ e. Held s fs e ⊎ Held s gs e)
  Merge-union M N fs gs d k a b e =
      ((λ c. Held-append_cases s fs gs e (Settled-has (λ f. M f ⊎ N f) (fs ++ gs) all e c)), back)
    where
      all : (f : F) → M f ⊎ N f → Enabled s (Held s (fs ++ gs)) f → Contains (fs ++ gs) f
      all f (inl m) en = Contains-append_left fs gs f ((a f).0 m)
      all f (inr n) en = Contains-append_right fs gs f ((b f).0 n)

      back : Held s fs e ⊎ Held s gs e → Cl s (λ f. M f ⊎ N f) e
      back (inl h) = (fs, d, (λ f m. inl ((a f).1 m)), h)
      back (inr h) = (gs, k, (λ f m. inr ((b f).1 m)), h)

  -- the merged history is below every set that has both and all that firings of either set give which are enabled over it
  pub Merge-least : (M N : F → Type 0) (P : E → Type 0) → ((e : E) → Cl s M e → P e) → ((e : E) → Cl s N e → P e) → ((f : F) → M f ⊎ N f → Enabled s P f → (e : E) → Contains (s.gives f) e → P e) → (e : E) → Cl s (λ f. M f ⊎ N f) e → P e
  Merge-least M N P a b closed = Cl-least (λ f. M f ⊎ N f) P (a s.start (Cl-start M)) closed

  -- taking what Cl(M) enables more than once adds nothing: the closure of what a derivation within M applies, with M, is that of M
  pub Cl-idle : (M N : F → Type 0) → ((f : F) → N f → M f ⊎ (Enabled s (Cl s M) f → ⊥)) → ((f : F) → M f → N f) → ((f : F) → N f → Enabled s (Cl s M) f → M f) → Same (Cl s M) (Cl s N)
  Cl-idle M N _ sub only e = (Cl-mono M N sub e, Cl-least N (Cl s M) (Cl-start M) (λ f n en x g. Cl-closed M f (only f n en) en x g) e)
