-- How many `apply`s name a statement, statement by statement.
use Rattle.std.proofs.Common.{◌≡◌, ℕ, ◌+◌, ◌-◌, ◌≤◌, inl, inr, ◌⊎◌, refl, sym, ap, ◌∙◌, subst, arith, Bool, true, false, ◌==◌, ◌||◌, not, eq-eqb, List, length, get_or, replicate, Some}
use Rattle.std.specs.Prelude.{slice_get, if◌then◌else◌}
use Rattle.std.proofs.lemmas.Bool.{false≢true, eqb-true, cases_lt, cases_Bool}
use Rattle.std.proofs.lemmas.List.{length-replicate, get_or-replicate}
use Rattle.u_program.specs.Parts.{StatementParts}
use Rattle.u_check.specs.Kinds.{is_back, back_named}
use Rattle.u_check.specs.Rules.{statement_at}
use Rattle.u_check.proofs.KindTests.{back_kind}
use Rattle.u_determinate.specs.declared.calls.Calls.{Calls}
use Rattle.u_determinate.specs.declared.calls.Calls.TheVariants.{Nothing, One, Many}
use Rattle.u_determinate.specs.Arcs.{IsAppliedOnce}
use Rattle.u_determinate.specs.Breaches.{ReturnsOneCall}
use Rattle.u_determinate.specs.Tables.{with_call, is_one_call, AreCalls, CallsBefore}
use Rattle.u_determinate.proofs.NumberFacts.{one_statement, number_within, place_number}

-- the first statements and one more
pub below_more_number : (m i : ℕ) → m ≤ i + 1 → (m ≤ i) ⊎ (m ≡ i + 1)
below_more_number m i h = elim (cases_lt i m) [ inl l ↦ inr (omega (arith, h, l)) | inr l ↦ inl l ]

module _ (ss : List StatementParts) (i : ℕ) (s : StatementParts) (at : slice_get ss i ≡ Some s) where
  same : (m : ℕ) (t : StatementParts) → m ≡ i + 1 → statement_at ss m ≡ Some t → s ≡ t
  same m t e q = one_statement ss (i + 1) s t (place_number ss i s at) (subst (λ (m : ℕ). statement_at ss m ≡ Some t) e q)

  module _ (n : ℕ) where
    kept : (c : Calls) → (back_named s.kind ≡ Some n → ⊥) → AreCalls ss n i c → AreCalls ss n (i + 1) c
    kept Nothing away w = λ m t h q k.
        elim (below_more_number m i h) [ inl l ↦ w m t l q k | inr e ↦ away (ap (λ (x : StatementParts). back_named x.kind) (same m t e q) ∙ k) ]
    kept One away w = record {
      apply = w.apply;
      it = w.it;
      before = omega (arith, w.before);
      stands = w.stands;
      names = w.names;
      only = λ m t h q k. elim (below_more_number m i h) [ inl l ↦ w.only m t l q k | inr e ↦ absurd (away (ap (λ (x : StatementParts). back_named x.kind) (same m t e q) ∙ k)) ];
    }
    kept Many away w = w

    called : (c : Calls) → back_named s.kind ≡ Some n → AreCalls ss n i c → AreCalls ss n (i + 1) (with_call c)
    called Nothing e w = record {
      apply = i + 1;
      it = s;
      before = omega arith;
      stands = place_number ss i s at;
      names = e;
      only = λ m t h q k. elim (below_more_number m i h) [ inl l ↦ absurd (w m t l q k) | inr z ↦ z ];
    }
    called One e w = λ (p : IsAppliedOnce ss n).
        let x = p.only w.apply w.it w.stands w.names in
        let y = p.only (i + 1) s (place_number ss i s at) e in
        let b = w.before in
        omega (arith, x, y, b)
    called Many e w = w

  module _ (t : List Calls) (w : CallsBefore ss i t) where
    -- a statement that names no `back`
    pub no_call : ((n : ℕ) → back_named s.kind ≡ Some n → ⊥) → CallsBefore ss (i + 1) t
    no_call away = record { as_long = w.as_long; each = λ n h. kept n (get_or t (n - 1) Nothing) (away n) (w.each n h) }

    -- one that names a `back`, where it is added
    pub call : (number : ℕ) (t' : List Calls) → back_named s.kind ≡ Some number → length t' ≡ length t → ((n : ℕ) → 1 ≤ n → n ≤ length t → get_or t' (n - 1) Nothing ≡ (if n == number then with_call (get_or t (n - 1) Nothing) else get_or t (n - 1) Nothing)) → CallsBefore ss (i + 1) t'
    call number t' e long new = record {
      as_long = long ∙ w.as_long;
      each = λ n h. by n h (n == number) refl (new n h.0 (let k = w.as_long in omega (arith, h.1)));
    }
      where
        by : (n : ℕ) (h : (1 ≤ n) × (n ≤ length ss)) (z : Bool) → (n == number) ≡ z → get_or t' (n - 1) Nothing ≡ (if n == number then with_call (get_or t (n - 1) Nothing) else get_or t (n - 1) Nothing) → AreCalls ss n (i + 1) (get_or t' (n - 1) Nothing)
        by n h true z q =
            let r : get_or t' (n - 1) Nothing ≡ with_call (get_or t (n - 1) Nothing) = rw z at q in
            let k : n ≡ number = eqb-true n number z in
            subst (λ (x : Calls). AreCalls ss n (i + 1) x) (sym r) (called n (get_or t (n - 1) Nothing) (e ∙ ap (λ (j : ℕ). Some j) (sym k)) (w.each n h))
        by n h false z q =
            let r : get_or t' (n - 1) Nothing ≡ get_or t (n - 1) Nothing = rw z at q in
            let away : back_named s.kind ≡ Some n → ⊥ = λ k. false≢true (sym z ∙ eq-eqb n number (let x = sym k ∙ e in cc)) in
            subst (λ (x : Calls). AreCalls ss n (i + 1) x) (sym r) (kept n (get_or t (n - 1) Nothing) away (w.each n h))

-- before the first statement there is none
pub none_yet : (ss : List StatementParts) (t : List Calls) → t ≡ replicate (length ss) Nothing → CallsBefore ss 0 t
none_yet ss t e = subst (λ (u : List Calls). CallsBefore ss 0 u) (sym e) (record {
  as_long = length-replicate (length ss) Nothing;
  each = λ n h. subst (λ (x : Calls). AreCalls ss n 0 x) (sym (get_or-replicate (length ss) (n - 1) Nothing Nothing (omega (arith, h.0, h.1)))) (λ m s l q k. let v = number_within ss m s q in omega (arith, v.0, l));
})

-- What the whole table says of a `back`.
module _ (ss : List StatementParts) (t : List Calls) (w : CallsBefore ss (length ss) t) (i : ℕ) (s : StatementParts) (at : slice_get ss i ≡ Some s) where
  one_call : (n : ℕ) (c : Calls) → AreCalls ss n (length ss) c → is_one_call c ≡ true → IsAppliedOnce ss n
  one_call n Nothing v e = absurd (false≢true e)
  one_call n One v e = record {
    apply = v.apply;
    it = v.it;
    stands = v.stands;
    names = v.names;
    only = λ m x q k. v.only m x (number_within ss m x q).1 q k;
  }
  one_call n Many v e = absurd (false≢true e)

  not_one_call : (n : ℕ) (c : Calls) → AreCalls ss n (length ss) c → is_one_call c ≡ false → IsAppliedOnce ss n → ⊥
  not_one_call n Nothing v e p = v p.apply p.it (number_within ss p.apply p.it p.stands).1 p.stands p.names
  not_one_call n One v e p = false≢true (sym e)
  not_one_call n Many v e p = v p

  here : AreCalls ss (i + 1) (length ss) (get_or t i Nothing)
  here =
      let n = number_within ss (i + 1) s (place_number ss i s at) in
      let e : i + 1 - 1 ≡ i = omega arith in
      subst (λ (k : ℕ). AreCalls ss (i + 1) (length ss) (get_or t k Nothing)) e (w.each (i + 1) n)

  kind_of : (u : StatementParts) → statement_at ss (i + 1) ≡ Some u → s.kind ≡ u.kind
  kind_of u q = ap (λ (x : StatementParts). x.kind) (one_statement ss (i + 1) s u (place_number ss i s at) q)

  pub returns : (not (is_back s.kind) || is_one_call (get_or t i Nothing)) ≡ true → ReturnsOneCall ss (i + 1)
  returns e u q k =
      let b : is_back s.kind ≡ true = ap is_back (kind_of u q ∙ k) in
      let c : is_one_call (get_or t i Nothing) ≡ true = rw b at e in
      one_call (i + 1) (get_or t i Nothing) here c

  pub returns_not : (not (is_back s.kind) || is_one_call (get_or t i Nothing)) ≡ false → ReturnsOneCall ss (i + 1) → ⊥
  returns_not e asks =
      elim (cases_Bool (is_back s.kind)) [
        | inl b ↦
            let c : is_one_call (get_or t i Nothing) ≡ false = rw b at e in
            not_one_call (i + 1) (get_or t i Nothing) here c (asks s (place_number ss i s at) (back_kind s.kind b))
        | inr b ↦ false≢true (sym (rw b at e))
      ]
