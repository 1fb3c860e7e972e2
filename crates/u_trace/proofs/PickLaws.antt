-- The firings at some places, picked one after another.
use Rattle.std.proofs.Common.{◌≡◌, ℕ, ◌+◌, ◌<◌, List, [], ◌∷◌, ◌++◌, inl, inr, subst, Some, arith}
use Rattle.std.specs.Prelude.{Contains, slice_get, ◌↔◌}
use Rattle.std.proofs.lemmas.List.Elements.{Contains-append_left, Contains-push, Contains-push_cases}
use Rattle.u_base.proofs.Member.{Contains-nil}
use Rattle.u_trace.specs.Stories.{AreThoseAt, Below}
use Rattle.u_trace.proofs.Lists.{below_or_not}
use Rattle.u_trace.proofs.PlaceLaws.{rise_push, zip_push}

module _ {F : Type 0} (log : List F) (P : ℕ → Type 0) where
  pub picked_none : AreThoseAt log (Below 0 P) []
  picked_none = record { places = []; rise = tt; exact = λ k. ((λ m. absurd (Contains-nil k m)), λ b. absurd (let l = b.0 in omega (arith, l))); at = tt }

  module _ (n : ℕ) (fs : List F) (w : AreThoseAt log (Below n P) fs) where
    pub picked_more : (f : F) → slice_get log n ≡ Some f → P n → AreThoseAt log (Below (n + 1) P) (fs ++ f ∷ [])
    picked_more f is p = record {
      places = w.places ++ n ∷ [];
      rise = rise_push w.places n w.rise (λ j m. ((w.exact j).0 m).0);
      exact = λ k. (to k, back k);
      at = zip_push (λ k f. slice_get log k ≡ Some f) w.places fs n f w.at is;
    }
      where
        to : (k : ℕ) → Contains (w.places ++ n ∷ []) k → Below (n + 1) P k
        to k m = elim (Contains-push_cases w.places n k m) [ inl h ↦ (let b = (w.exact k).0 h in ((let l = b.0 in omega (arith, l)), b.1)) | inr e ↦ (omega (arith, e), subst P e p) ]

        back : (k : ℕ) → Below (n + 1) P k → Contains (w.places ++ n ∷ []) k
        back k (l, q) =
            elim (below_or_not k n) [
              | inl b ↦ Contains-append_left w.places (n ∷ []) k ((w.exact k).1 (b, q))
              | inr b ↦ (let e : n ≡ k = omega (arith, l, b) in subst (Contains (w.places ++ n ∷ [])) e (Contains-push w.places n))
            ]

    pub picked_still : (P n → ⊥) → AreThoseAt log (Below (n + 1) P) fs
    picked_still un = record { places = w.places; rise = w.rise; exact = λ k. ((λ m. (let b = (w.exact k).0 m in ((let l = b.0 in omega (arith, l)), b.1))), back k); at = w.at }
      where
        back : (k : ℕ) → Below (n + 1) P k → Contains w.places k
        back k (l, q) = elim (below_or_not k n) [ inl b ↦ (w.exact k).1 (b, q) | inr b ↦ (let e : k ≡ n = omega (arith, l, b) in absurd (un (subst P e q))) ]

    pub picked_all : ((k : ℕ) → P k → k < n) → AreThoseAt log P fs
    picked_all below = record { places = w.places; rise = w.rise; exact = λ k. ((λ m. ((w.exact k).0 m).1), λ p. (w.exact k).1 (below k p, p)); at = w.at }

  -- at the same places
  pub same_places : (Q : ℕ → Type 0) (fs : List F) → ((k : ℕ) → P k ↔ Q k) → AreThoseAt log P fs → AreThoseAt log Q fs
  same_places Q fs same w = record { places = w.places; rise = w.rise; exact = λ k. ((λ m. (same k).0 ((w.exact k).0 m)), λ q. (w.exact k).1 ((same k).1 q)); at = w.at }
