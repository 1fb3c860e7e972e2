-- Firing on from a set, and from nothing.
use Rattle.std.proofs.Common.{◌≡◌, ℕ, ◌≤◌, List, ◌⊎◌, inl, inr, length}
use Rattle.std.specs.Prelude.{Contains}
use Rattle.u_base.specs.Firing.{System, Enabled, Held, Derivation, EachPlace, IsNext, IsNextFrom, IsExhausted, Plain, Cl, Same}
use Rattle.u_base.proofs.Held.{Enabled-mono}
use Rattle.u_base.proofs.Closure.{Derivation-nil, Derivation-push, Settled-is_Cl, Cl-mono}
use Rattle.u_base.proofs.Plain.{EachPlace-nil, EachPlace-push, EachPlace-along}

module _ {E F : Type 0} (s : System E F) where
  -- a derivation holds the closure of its members
  pub Derivation-is_Cl : (fs : List F) → Derivation s fs → Same (Held s fs) (Cl s (Contains fs))
  Derivation-is_Cl fs d = Settled-is_Cl s (Contains fs) fs d (λ f m. m) (λ f m en. m)

  Enabled-Cl_mono : (M N : F → Type 0) → ((f : F) → M f → N f) → (f : F) → Enabled s (Cl s M) f → Enabled s (Cl s N) f
  Enabled-Cl_mono M N sub f en = Enabled-mono s (Cl s M) (Cl s N) (Cl-mono s M N sub) f en

  module _ (le : F → F → Type 0) (M : F → Type 0) (none : (f : F) → M f → ⊥) where
    only : (fs : List F) (f : F) → M f ⊎ Contains fs f → Contains fs f
    only fs f (inl m) = absurd (none f m)
    only fs f (inr c) = c

    next_from_nothing : (fs : List F) (f : F) → Derivation s fs → IsNextFrom s le M fs f → IsNext s le fs f
    next_from_nothing fs f d n = record {
      enabled = Enabled-mono s (Cl s (Contains fs)) (Held s fs) (λ e. (Derivation-is_Cl fs d e).1) f (Enabled-Cl_mono (λ g. M g ⊎ Contains fs g) (Contains fs) (only fs) f n.enabled);
      new = λ m. n.new (inr m);
      least = λ g en. least g (n.least g (Enabled-Cl_mono (Contains fs) (λ h. M h ⊎ Contains fs h) (λ h m. inr m) g (Enabled-mono s (Held s fs) (Cl s (Contains fs)) (λ e. (Derivation-is_Cl fs d e).0) g en)));
    }
      where
        least : (g : F) → (M g ⊎ Contains fs g) ⊎ le f g → Contains fs g ⊎ le f g
        least g (inl a) = inl (only fs g a)
        least g (inr l) = inr l

    plain_from_nothing : (fs : List F) → EachPlace (IsNextFrom s le M) fs → Derivation s fs × EachPlace (IsNext s le) fs
    plain_from_nothing =
        EachPlace-along (IsNextFrom s le M) (λ fs. Derivation s fs × EachPlace (IsNext s le) fs) (Derivation-nil s, EachPlace-nil (IsNext s le))
        (λ fs f q n. let m = next_from_nothing fs f q.0 n in (Derivation-push s fs f q.0 m.enabled, EachPlace-push (IsNext s le) fs f q.1 m))

    -- from nothing taken it is the plain list
    pub Plain-from_nothing : (k : ℕ) (fs : List F) → EachPlace (IsNextFrom s le M) fs → length fs ≤ k → (length fs ≡ k) ⊎ IsExhausted s (λ g. M g ⊎ Contains fs g) → Plain s le k fs
    Plain-from_nothing k fs each few full = record { each = (plain_from_nothing fs each).1; few = few; full = ended full }
      where
        ended : (length fs ≡ k) ⊎ IsExhausted s (λ g. M g ⊎ Contains fs g) → (length fs ≡ k) ⊎ ((f : F) → Enabled s (Held s fs) f → Contains fs f)
        ended (inl e) = inl e
        ended (inr q) =
            inr (λ f en. only fs f (q f (Enabled-Cl_mono (Contains fs) (λ h. M h ⊎ Contains fs h) (λ h m. inr m) f (Enabled-mono s (Held s fs) (Cl s (Contains fs)) (λ e. (Derivation-is_Cl fs (plain_from_nothing fs each).0 e).0) f en))))
