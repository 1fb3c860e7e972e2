-- Where clashes come from: the first clash of a derivation comes from one of its firings and an earlier one.
use Rattle.std.proofs.Common.{List, [], ◌∷◌, ◌++◌, ◌⊎◌, inl, inr, subst}
use Rattle.std.specs.Prelude.{Contains}
use Rattle.std.proofs.lemmas.List.Elements.{Contains-push_cases}
use Rattle.u_base.specs.Firing.{System, Held, Enabled, Derivation, Both, Whole}
use Rattle.u_base.proofs.Member.{Contains-nil}
use Rattle.u_base.proofs.Held.{Held-push, Held-append_left, Held-append_right, Held-nil, Enabled-mono}
use Rattle.u_base.proofs.Closure.{Derivation-append, Derivation-nil, Derivation-push}
use Rattle.u_base.proofs.Plain.{EachPlace-along}

module _ {E F : Type 0} (s : System E F) where
  -- an induction over a derivation
  pub Derivation-along : (Q : List F → Type 0) → Q [] → ((fs : List F) (f : F) → Q fs → Enabled s (Held s fs) f → Q (fs ++ f ∷ [])) → (fs : List F) → Derivation s fs → Q fs
  Derivation-along Q none more fs d = EachPlace-along (λ before f. Enabled s (Held s before) f) Q none more fs d.each

  -- each member is enabled over what all hold
  pub Derivation-enabled : (fs : List F) → Derivation s fs → (f : F) → Contains fs f → Enabled s (Held s fs) f
  Derivation-enabled =
      Derivation-along (λ fs. (f : F) → Contains fs f → Enabled s (Held s fs) f) (λ f m. absurd (Contains-nil f m))
      (λ fs g q en f m. Enabled-mono s (Held s fs) (Held s (fs ++ g ∷ [])) (λ e h. Held-append_left s fs (g ∷ []) e h) f
      (elim (Contains-push_cases fs g f m) [ inl a ↦ q f a | inr e ↦ subst (λ (x : F). Enabled s (Held s fs) x) e en ]))

-- `Clash`, as two values at one port; `Cells`, as two pairs of one cell.
-- `alone`: no firing that is enabled over a run's history gives an entry that clashes with the start.
-- `origin`: where two firings that are enabled over one history give entries that clash, that history has a clash or a cell with two pairs.
module _ {E F : Type 0} (s : System E F) (Clash Cells : E → E → Type 0) (turned : (a b : E) → Clash a b → Clash b a) (never : Clash s.start s.start → ⊥) (alone : (fs : List F) → Derivation s fs → (f : F) → Enabled s (Held s fs) f → (e : E) → Contains (s.gives f) e → Clash e s.start → ⊥) (origin : (fs : List F) → Derivation s fs → (f g : F) → Enabled s (Held s fs) f → Enabled s (Held s fs) g → (a b : E) → Contains (s.gives f) a → Contains (s.gives g) b → Clash a b → Both Clash (Held s fs) ⊎ Both Cells (Held s fs)) where
  wider : (R : E → E → Type 0) (fs : List F) (f : F) → Both R (Held s fs) → Both R (Held s (fs ++ f ∷ []))
  wider R fs f (a, b, h, k, r) = (a, b, Held-append_left s fs (f ∷ []) a h, Held-append_left s fs (f ∷ []) b k, r)

  Blames : List F → Type 0
  Blames fs = Derivation s fs × (Both Clash (Held s fs) → Both Cells (Held s fs))

  module _ (fs : List F) (f : F) (d : Derivation s fs) (q : Both Clash (Held s fs) → Both Cells (Held s fs)) (en : Enabled s (Held s fs) f) where
    settled : Both Clash (Held s fs) ⊎ Both Cells (Held s fs) → Both Cells (Held s (fs ++ f ∷ []))
    settled (inl c) = wider Cells fs f (q c)
    settled (inr c) = wider Cells fs f c

    -- a clash of what f gives and what was held
    one_new : (a b : E) → Contains (s.gives f) a → Held s fs b → Clash a b → Both Cells (Held s (fs ++ f ∷ []))
    one_new a b g (inl e) c = absurd (alone fs d f en a g (subst (λ (x : E). Clash a x) e c))
    one_new a b g (inr (h, m, k)) c = settled (origin fs d f h en (Derivation-enabled s fs d h m) a b g k c)

    pushed : Both Clash (Held s (fs ++ f ∷ [])) → Both Cells (Held s (fs ++ f ∷ []))
    pushed (a, b, h, k, c) = cases ((Held-push s fs f a).0 h) ((Held-push s fs f b).0 k)
      where
        cases : Held s fs a ⊎ Contains (s.gives f) a → Held s fs b ⊎ Contains (s.gives f) b → Both Cells (Held s (fs ++ f ∷ []))
        cases (inl x) (inl y) = settled (inl (a, b, x, y, c))
        cases (inl x) (inr y) = one_new b a y x (turned a b c)
        cases (inr x) (inl y) = one_new a b x y c
        cases (inr x) (inr y) = settled (origin fs d f f en en a b x y c)

  -- where a derivation holds two entries that clash, it holds two pairs of one cell
  pub Derivation-blames : (fs : List F) → Derivation s fs → Both Clash (Held s fs) → Both Cells (Held s fs)
  unfolding Blames
  Derivation-blames fs d =
      (Derivation-along s Blames (Derivation-nil s, λ (a, b, h, k, c). absurd (never (subst (λ (x : E). Clash s.start x) (Held-nil s b k) (subst (λ (x : E). Clash x b) (Held-nil s a h) c))))
      (λ gs f q en. (Derivation-push s gs f q.0 en, pushed gs f q.0 q.1 en)) fs d).1

  -- and so for the whole history
  pub Whole-blames : Both Clash (Whole s) → Both Cells (Whole s)
  Whole-blames (a, b, (fs, d, h), (gs, k, i), c) =
      let r = Derivation-blames (fs ++ gs) (Derivation-append s fs gs d k) (a, b, Held-append_left s fs gs a h, Held-append_right s fs gs b i, c) in
      (r.0, r.1, (fs ++ gs, Derivation-append s fs gs d k, r.2), (fs ++ gs, Derivation-append s fs gs d k, r.3), r.4)
