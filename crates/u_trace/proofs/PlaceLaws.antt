-- Lists of places that rise, and what stands there.
use Rattle.std.proofs.Common.{◌≡◌, ℕ, zero, suc, ◌<◌, ◌≤◌, List, [], ◌∷◌, ◌++◌, inl, inr, refl, subst, take, Some, arith}
use Rattle.std.specs.Prelude.{Contains, slice_get}
use Rattle.std.specs.List.{AllZip}
use Rattle.std.proofs.lemmas.List.Elements.{Contains-push_cases}
use Rattle.u_sets.specs.Rising.{Ascending}
use Rattle.u_base.proofs.Member.{Contains-nil, Contains-head, Contains-tail, Contains-cons_cases}

abbrev pub Rise : List ℕ → Type 0
Rise ks = Ascending (λ j k. j < k) ks

pub rise_push : (ks : List ℕ) (k : ℕ) → Rise ks → ((j : ℕ) → Contains ks j → j < k) → Rise (ks ++ k ∷ [])
rise_push [] k r below = ((λ j m. absurd (Contains-nil j m)), tt)
rise_push (i ∷ ks) k r below = (
  (λ j m. elim (Contains-push_cases ks k j m) [ inl n ↦ r.0 j n | inr e ↦ subst (λ (x : ℕ). i < x) e (below i (Contains-head i ks)) ]),
  rise_push ks k r.1 (λ j m. below j (Contains-tail i j ks m)),
)

module _ {F : Type 0} (R : ℕ → F → Type 0) where
  pub zip_push : (ks : List ℕ) (fs : List F) (k : ℕ) (f : F) → AllZip R ks fs → R k f → AllZip R (ks ++ k ∷ []) (fs ++ f ∷ [])
  zip_push [] [] k f z r = (r, tt)
  zip_push [] (g ∷ fs) k f z r = absurd z
  zip_push (j ∷ ks) [] k f z r = absurd z
  zip_push (j ∷ ks) (g ∷ fs) k f z r = (z.0, zip_push ks fs k f z.1 r)

  -- the place of a firing, and the firing of a place
  pub zip_place : (ks : List ℕ) (fs : List F) → AllZip R ks fs → (i : ℕ) (f : F) → slice_get fs i ≡ Some f → (k : ℕ) × (slice_get ks i ≡ Some k) × R k f
  zip_place [] [] z i f e = absurd (cc)
  zip_place [] (g ∷ fs) z i f e = absurd z
  zip_place (j ∷ ks) [] z i f e = absurd z
  zip_place (j ∷ ks) (g ∷ fs) z zero f e = let h : g ≡ f = cc in (j, refl, subst (R j) h z.0)
  zip_place (j ∷ ks) (g ∷ fs) z (suc i) f e = zip_place ks fs z.1 i f e

  pub zip_member : (ks : List ℕ) (fs : List F) → AllZip R ks fs → (k : ℕ) → Contains ks k → (f : F) × Contains fs f × R k f
  zip_member [] fs z k m = absurd (Contains-nil k m)
  zip_member (j ∷ ks) [] z k m = absurd z
  zip_member (j ∷ ks) (g ∷ fs) z k m =
      elim (Contains-cons_cases j k ks m)
      [ inl e ↦ (g, Contains-head g fs, subst (λ (x : ℕ). R x g) e z.0) | inr n ↦ (let r = zip_member ks fs z.1 k n in (r.0, Contains-tail g r.0 fs r.1, r.2)) ]

  pub zip_back : (ks : List ℕ) (fs : List F) → AllZip R ks fs → (f : F) → Contains fs f → (k : ℕ) × Contains ks k × R k f
  zip_back ks [] z f m = absurd (Contains-nil f m)
  zip_back [] (g ∷ fs) z f m = absurd z
  zip_back (j ∷ ks) (g ∷ fs) z f m =
      elim (Contains-cons_cases g f fs m)
      [ inl e ↦ (j, Contains-head j ks, subst (R j) e z.0) | inr n ↦ (let r = zip_back ks fs z.1 f n in (r.0, Contains-tail j r.0 ks r.1, r.2)) ]

  -- a lower place is that of an earlier firing
  pub zip_earlier : (ks : List ℕ) (fs : List F) → Rise ks → AllZip R ks fs → (i k j : ℕ) → slice_get ks i ≡ Some k → Contains ks j → j < k → (f : F) × Contains (take i fs) f × R j f
  zip_earlier [] fs r z i k j e m l = absurd (Contains-nil j m)
  zip_earlier (p ∷ ks) [] r z i k j e m l = absurd z
  zip_earlier (p ∷ ks) (g ∷ fs) r z zero k j e m l =
      let h : p ≡ k = cc in
      absurd (elim (Contains-cons_cases p j ks m) [ inl q ↦ omega (arith, q, h, l) | inr n ↦ (let b = r.0 j n in omega (arith, b, h, l)) ])
  zip_earlier (p ∷ ks) (g ∷ fs) r z (suc i) k j e m l =
      elim (Contains-cons_cases p j ks m) [
        | inl q ↦ (g, Contains-head g (take i fs), subst (λ (x : ℕ). R x g) q z.0)
        | inr n ↦ (let w = zip_earlier ks fs r.1 z.1 i k j e n l in (w.0, Contains-tail g w.0 (take i fs) w.1, w.2))
      ]

  -- the last firing is that of the highest place
  pub zip_last : (ks : List ℕ) (fs : List F) (f : F) → Rise ks → AllZip R ks (fs ++ f ∷ []) → (k : ℕ) × Contains ks k × R k f × ((j : ℕ) → Contains ks j → j ≤ k)
  zip_last [] [] f r z = absurd z
  zip_last [] (g ∷ fs) f r z = absurd z
  zip_last (k ∷ []) [] f r z = (k, Contains-head k [], z.0, λ j m. elim (Contains-cons_cases k j [] m) [ inl e ↦ omega (arith, e) | inr n ↦ absurd (Contains-nil j n) ])
  zip_last (k ∷ p ∷ ks) [] f r z = absurd z.1
  zip_last (p ∷ ks) (g ∷ fs) f r z =
      let w = zip_last ks fs f r.1 z.1 in (
        w.0,
        Contains-tail p w.0 ks w.1,
        w.2,
        (λ j m. elim (Contains-cons_cases p j ks m) [ inl e ↦ (let b = r.0 w.0 w.1 in omega (arith, e, b)) | inr n ↦ w.3 j n ]),
      )
