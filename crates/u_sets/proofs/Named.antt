-- Pairs whose numbers are the places of keys, and what the keys have.
use Rattle.std.proofs.Common.{◌≡◌, ◌↔◌, ◌⊎◌, inl, inr, ℕ, zero, suc, ◌<◌, ◌≤◌, List, [], ◌∷◌, ◌++◌, Option, Some, None, Contains, length, subst, sym, ◌∙◌, ap, refl, arith, append_assoc, append-nil}
use Rattle.std.specs.Prelude.{slice_get}
use Rattle.std.proofs.lemmas.List.Elements.{Contains-append_left, Contains-append_right, Contains-append_cases}
use Rattle.u_base.specs.Firing.{Distinct}
use Rattle.u_base.proofs.Member.{Contains-nil, Contains-head, Contains-tail, Contains-cons_cases}
use Rattle.u_sets.specs.Members.{IsWith, GoesLast}
use Rattle.u_sets.specs.Pairs.{HasAnother}
use Rattle.u_sets.specs.Columns.{AreBelow, pair_under, named, IsNumberOf, MayNumber}

module _ {K : Type 0} where
  pub stands_at : (ks : List K) (n : ℕ) (k : K) → IsNumberOf ks k n → Contains ks k
  stands_at [] n k e = absurd (cc)
  stands_at (j ∷ ks) zero k e = let d : j ≡ k = cc in subst (λ (x : K). Contains (j ∷ ks) x) d (Contains-head j ks)
  stands_at (j ∷ ks) (suc n) k e = Contains-tail j k ks (stands_at ks n k e)

  -- a key that stands once has one number
  pub one_number : (ks : List K) (k : K) (m n : ℕ) → Distinct ks → IsNumberOf ks k m → IsNumberOf ks k n → m ≡ n
  one_number [] k m n d e f = absurd (cc)
  one_number (j ∷ ks) k zero zero d e f = refl
  one_number (j ∷ ks) k zero (suc n) d e f = let q : k ≡ j = cc in absurd (d.0 (subst (λ (x : K). Contains ks x) q (stands_at ks n k f)))
  one_number (j ∷ ks) k (suc m) zero d e f = let q : k ≡ j = cc in absurd (d.0 (subst (λ (x : K). Contains ks x) q (stands_at ks m k e)))
  one_number (j ∷ ks) k (suc m) (suc n) d e f = ap suc (one_number ks k m n d.1 e f)

  still_at : (ks : List K) (k : K) (n : ℕ) → n < length ks → slice_get (ks ++ k ∷ []) n ≡ slice_get ks n
  still_at [] k n l = absurd (omega (arith, l))
  still_at (j ∷ ks) k zero l = refl
  still_at (j ∷ ks) k (suc n) l = still_at ks k n (omega (arith, l))

module _ {V : Type 0} where
  pub below_with : (n i : ℕ) (v : V) (ps qs : List (ℕ × V)) → AreBelow n ps → i < n → IsWith ps (i, v) qs → AreBelow n qs
  below_with n i v ps qs b l put p m = elim ((put p).0 m) [ inl a ↦ b p a | inr e ↦ subst (λ (q : ℕ × V). q.0 < n) e l ]

  pub below_more : (m n : ℕ) (ps : List (ℕ × V)) → AreBelow m ps → m ≤ n → AreBelow n ps
  below_more m n ps b l p h = let k = b p h in omega (arith, k, l)

module _ {K V : Type 0} where
  -- the number of the key has the value
  abbrev pub HasAt : List K → List (ℕ × V) → K → V → Type 0
  HasAt ks ps k v = (n : ℕ) × IsNumberOf ks k n × Contains ps (n, v)

  of_pair : (o : Option K) (w : V) (k : K) (v : V) → Contains (pair_under o w) (k, v) → (o ≡ Some k) × (w ≡ v)
  of_pair None w k v m = absurd (Contains-nil (k, v) m)
  of_pair (Some j) w k v m =
      elim (Contains-cons_cases (j, w) (k, v) [] m) [
        | inl e ↦ (ap (λ (p : K × V). Some p.0) e, ap (λ (p : K × V). p.1) e)
        | inr n ↦ absurd (Contains-nil (k, v) n)
      ]

  to_pair : (o : Option K) (k : K) (v : V) → o ≡ Some k → Contains (pair_under o v) (k, v)
  to_pair o k v e = subst (λ (x : Option K). Contains (pair_under x v) (k, v)) (sym e) (Contains-head (k, v) [])

  pub of_named : (ks : List K) (ps : List (ℕ × V)) (k : K) (v : V) → Contains (named ks ps) (k, v) → HasAt ks ps k v
  of_named ks [] k v m = absurd (Contains-nil (k, v) m)
  of_named ks (p ∷ ps) k v m =
      elim (Contains-append_cases (pair_under (slice_get ks p.0) p.1) (named ks ps) (k, v) m) [
        | inl a ↦ (let r = of_pair (slice_get ks p.0) p.1 k v a in (p.0, r.0, subst (λ (w : V). Contains (p ∷ ps) (p.0, w)) r.1 (Contains-head p ps)))
        | inr b ↦ (let r = of_named ks ps k v b in (r.0, r.1, Contains-tail p (r.0, v) ps r.2))
      ]

  pub to_named : (ks : List K) (ps : List (ℕ × V)) (k : K) (v : V) → HasAt ks ps k v → Contains (named ks ps) (k, v)
  to_named ks [] k v (n, e, m) = absurd (Contains-nil (n, v) m)
  to_named ks (p ∷ ps) k v (n, e, m) =
      elim (Contains-cons_cases p (n, v) ps m) [
        | inl q ↦ subst (λ (r : ℕ × V). Contains (pair_under (slice_get ks r.0) r.1 ++ named ks ps) (k, v)) (sym q)
            (Contains-append_left (pair_under (slice_get ks n) v) (named ks ps) (k, v) (to_pair (slice_get ks n) k v e))
        | inr r ↦ Contains-append_right (pair_under (slice_get ks p.0) p.1) (named ks ps) (k, v) (to_named ks ps k v (n, e, r))
      ]

  -- one pair more under a number is one more under its key
  pub named_with : (ks : List K) (ps qs : List (ℕ × V)) (n : ℕ) (k : K) (v : V) → IsNumberOf ks k n → IsWith ps (n, v) qs → IsWith (named ks ps) (k, v) (named ks qs)
  named_with ks ps qs n k v e put (j, x) = (to, back)
    where
      to : Contains (named ks qs) (j, x) → Contains (named ks ps) (j, x) ⊎ ◌≡◌ {A = K × V} (k, v) (j, x)
      to m =
          let r = of_named ks qs j x m in
          elim ((put (r.0, x)).0 r.2) [
            | inl a ↦ inl (to_named ks ps j x (r.0, r.1, a))
            | inr q ↦ (
                let i : n ≡ r.0 = ap (λ (p : ℕ × V). p.0) q in
                let w : v ≡ x = ap (λ (p : ℕ × V). p.1) q in
                let s : Some k ≡ Some j = sym e ∙ ap (λ (i : ℕ). slice_get ks i) i ∙ r.1 in
                let d : k ≡ j = cc in
                inr (ap (λ (a : K). (a, v)) d ∙ ap (λ (y : V). (j, y)) w))
          ]

      back : Contains (named ks ps) (j, x) ⊎ ◌≡◌ {A = K × V} (k, v) (j, x) → Contains (named ks qs) (j, x)
      back (inl m) = let r = of_named ks ps j x m in to_named ks qs j x (r.0, r.1, (put (r.0, x)).1 (inl r.2))
      back (inr q) = subst (λ (p : K × V). Contains (named ks qs) p) q (to_named ks qs k v (n, e, (put (n, v)).1 (inr refl)))

  -- what a key has is what its number has
  pub under : (ks : List K) (ps : List (ℕ × V)) (k : K) (n : ℕ) (v : V) → Distinct ks → AreBelow (length ks) ps → MayNumber ks k n → Contains ps (n, v) ↔ Contains (named ks ps) (k, v)
  under ks ps k n v d b (inl e) = (
    (λ m. to_named ks ps k v (n, e, m)),
    λ m. let r = of_named ks ps k v m in subst (λ (i : ℕ). Contains ps (i, v)) (one_number ks k r.0 n d r.1 e) r.2,
  )
  under ks ps k n v d b (inr (lacks, far)) = (
    (λ m. absurd (let l = b (n, v) m in omega (arith, far, l))),
    λ m. let r = of_named ks ps k v m in absurd (lacks (stands_at ks r.0 k r.1)),
  )

  -- another key leaves what is named
  pub still_named : (ks : List K) (k : K) (ps : List (ℕ × V)) → AreBelow (length ks) ps → named (ks ++ k ∷ []) ps ≡ named ks ps
  still_named ks k [] b = refl
  still_named ks k (p ∷ ps) b =
      ap (λ (o : Option K). pair_under o p.1 ++ named (ks ++ k ∷ []) ps) (still_at ks k p.0 (b p (Contains-head p ps)))
      ∙ ap (λ (qs : List (K × V)). pair_under (slice_get ks p.0) p.1 ++ qs) (still_named ks k ps (λ q m. b q (Contains-tail p q ps m)))

  pub last_named : (ks ls : List K) (k : K) (ps : List (ℕ × V)) → GoesLast ks k ls → AreBelow (length ks) ps → named ls ps ≡ named ks ps
  last_named ks ls k ps (inl (m, e)) b = ap (λ (xs : List K). named xs ps) e
  last_named ks ls k ps (inr (n, e)) b = ap (λ (xs : List K). named xs ps) e ∙ still_named ks k ps b

  pub named_distinct : (ks : List K) (ps : List (ℕ × V)) → Distinct ks → Distinct ps → Distinct (named ks ps)
  named_distinct ks [] d e = tt
  named_distinct ks (p ∷ ps) d e = at (named_distinct ks ps d e.1) (slice_get ks p.0) refl
    where
      at : Distinct (named ks ps) → (o : Option K) → slice_get ks p.0 ≡ o → Distinct (pair_under o p.1 ++ named ks ps)
      at rest None q = rest
      at rest (Some k) q = ((λ m. let r = of_named ks ps k p.1 m in e.0 (subst (λ (i : ℕ). Contains ps (i, p.1)) (one_number ks k r.0 p.0 d r.1 q) r.2)), rest)

  -- the pairs that are not alone under their number are those that are not alone under its key
  pub named_shared : (ks : List K) (ps qs : List (ℕ × V)) → Distinct ks → ((n : ℕ) (x : V) → Contains qs (n, x) ↔ (Contains ps (n, x) × HasAnother (λ y. Contains ps (n, y)) x))
      → (k : K) (v : V) → Contains (named ks qs) (k, v) ↔ (Contains (named ks ps) (k, v) × HasAnother (λ y. Contains (named ks ps) (k, y)) v)
  named_shared ks ps qs d h k v = (to, back)
    where
      to : Contains (named ks qs) (k, v) → Contains (named ks ps) (k, v) × HasAnother (λ y. Contains (named ks ps) (k, y)) v
      to m =
          let r = of_named ks qs k v m in
          let s = (h r.0 v).0 r.2 in
          (to_named ks ps k v (r.0, r.1, s.0), (s.1.0, to_named ks ps k s.1.0 (r.0, r.1, s.1.1), s.1.2))

      back : Contains (named ks ps) (k, v) × HasAnother (λ y. Contains (named ks ps) (k, y)) v → Contains (named ks qs) (k, v)
      back (m, (y, n, q)) =
          let r = of_named ks ps k v m in
          let s = of_named ks ps k y n in
          let t = subst (λ (i : ℕ). Contains ps (i, y)) (one_number ks k s.0 r.0 d s.1 r.1) s.2 in
          to_named ks qs k v (r.0, r.1, (h r.0 v).1 (r.2, (y, t, q)))

  -- one pair more at the end
  pub named_push : (ks : List K) (ps : List (ℕ × V)) (p : ℕ × V) (k : K) → IsNumberOf ks k p.0 → named ks (ps ++ p ∷ []) ≡ named ks ps ++ (k, p.1) ∷ []
  named_push ks [] p k e = append-nil (pair_under (slice_get ks p.0) p.1) ∙ ap (λ (o : Option K). pair_under o p.1) e
  named_push ks (q ∷ ps) p k e =
      ap (λ (rs : List (K × V)). pair_under (slice_get ks q.0) q.1 ++ rs) (named_push ks ps p k e)
      ∙ sym (append_assoc (pair_under (slice_get ks q.0) q.1) (named ks ps) ((k, p.1) ∷ []))
