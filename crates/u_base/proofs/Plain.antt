-- Facts about each place of a list, and what follows from `Plain`.
use Rattle.std.proofs.Common.{◌≡◌, ℕ, zero, suc, ◌<◌, List, [], ◌∷◌, ◌++◌, inl, inr, refl, subst, take, length, Some, append_assoc, append-nil, arith}
use Rattle.std.specs.Prelude.{slice_get}
use Rattle.std.proofs.lemmas.Option.{same_Some}
use Rattle.u_base.specs.Firing.{System, Held, Derivation, Distinct, EachPlace, IsNext, Plain, Whole, Same}
use Rattle.u_base.proofs.Apart.{Distinct-push}
use Rattle.u_base.proofs.Closure.{Quiet-whole}

module _ {F : Type 0} (P : List F → F → Type 0) where
  -- the same, after a list that stands before
  After : List F → List F → Type 0
  After done [] = Unit {0}
  After done (f ∷ fs) = P done f × After (done ++ f ∷ []) fs

  After-at : (done fs : List F) → After done fs → (k : ℕ) (f : F) → slice_get fs k ≡ Some f → P (done ++ take k fs) f
  unfolding After
  After-at done [] d k f e = absurd (cc)
  After-at done (g ∷ fs) d zero f e = rw append-nil (subst (λ (x : F). P done x) (same_Some g f e) d.0)
  After-at done (g ∷ fs) d (suc k) f e = rw append_assoc at (After-at (done ++ g ∷ []) fs d.1 k f e)

  After-from : (done fs : List F) → ((k : ℕ) (f : F) → slice_get fs k ≡ Some f → P (done ++ take k fs) f) → After done fs
  unfolding After
  After-from done [] a = tt
  After-from done (f ∷ fs) a = (rw append-nil at (a 0 f refl), After-from (done ++ f ∷ []) fs (λ k g e. rw append_assoc (a (suc k) g e)))

  After-push : (done fs : List F) (f : F) → After done fs → P (done ++ fs) f → After done (fs ++ f ∷ [])
  unfolding After
  After-push done [] f d p = (rw append-nil at p, tt)
  After-push done (g ∷ fs) f d p = (d.0, After-push (done ++ g ∷ []) fs f d.1 (rw append_assoc p))

  pub EachPlace-nil : EachPlace P []
  EachPlace-nil k f e = absurd (cc)

  pub EachPlace-push : (fs : List F) (f : F) → EachPlace P fs → P fs f → EachPlace P (fs ++ f ∷ [])
  EachPlace-push fs f each p = After-at [] (fs ++ f ∷ []) (After-push [] fs f (After-from [] fs each) p)

  -- an induction from the first member on
  along : (Q : List F → Type 0) → Q [] → ((fs : List F) (f : F) → Q fs → P fs f → Q (fs ++ f ∷ [])) → (done fs : List F) → Q done → After done fs → Q (done ++ fs)
  unfolding After
  along Q none more done [] q d = rw append-nil q
  along Q none more done (f ∷ fs) q d = rw append_assoc at (along Q none more (done ++ f ∷ []) fs (more done f q d.0) d.1)

  pub EachPlace-along : (Q : List F → Type 0) → Q [] → ((fs : List F) (f : F) → Q fs → P fs f → Q (fs ++ f ∷ [])) → (fs : List F) → EachPlace P fs → Q fs
  EachPlace-along Q none more fs each = along Q none more [] fs none (After-from [] fs each)

module _ {E F : Type 0} (s : System E F) (le : F → F → Type 0) where
  pub Plain-derivation : (k : ℕ) (fs : List F) → Plain s le k fs → Derivation s fs
  Plain-derivation k fs p = record { each = λ i f e. (p.each i f e).enabled }

  pub Plain-distinct : (k : ℕ) (fs : List F) → Plain s le k fs → Distinct fs
  Plain-distinct k fs p = EachPlace-along (IsNext s le) Distinct tt (λ gs f d n. Distinct-push gs f n.new d) fs p.each

  pub Plain-push : (k : ℕ) (fs : List F) (f : F) → EachPlace (IsNext s le) fs → IsNext s le fs f → EachPlace (IsNext s le) (fs ++ f ∷ [])
  Plain-push k fs f each n = EachPlace-push (IsNext s le) fs f each n

  -- where it ends below k, it holds the whole history
  pub Plain-whole : (k : ℕ) (fs : List F) → Plain s le k fs → length fs < k → Same (Held s fs) (Whole s)
  Plain-whole k fs p below = elim p.full [ inl e ↦ absurd (omega arith) | inr q ↦ Quiet-whole s fs (Plain-derivation k fs p) q ]
