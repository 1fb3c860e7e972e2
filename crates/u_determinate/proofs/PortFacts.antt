-- What a table says of one port of a statement, and what the first breaches of all ports say.
use Rattle.std.proofs.Common.{◌≡◌, ℕ, ◌+◌, ◌-◌, ◌*◌, ◌≤◌, inl, inr, refl, sym, ap, subst, arith, Bool, true, false, ◌||◌, List, length, get_or, Option, Some, None, below_more}
use Rattle.std.specs.Prelude.{slice_get, nat_lt, if◌then◌else◌}
use Rattle.std.proofs.lemmas.Bool.{false≢true, or_cases, ltb-true, ltb-false}
use Rattle.u_program.specs.declared.program.Kind.{Kind}
use Rattle.u_program.specs.Parts.{StatementParts}
use Rattle.u_check.specs.Kinds.{ports_of, comes_from_outside}
use Rattle.u_check.specs.Rules.{statement_at}
use Rattle.u_check.proofs.KindTests.{few_ports}
use Rattle.u_determinate.specs.declared.sources.Sources.{Sources}
use Rattle.u_determinate.specs.declared.sources.Sources.TheVariants.{Nothing}
use Rattle.u_determinate.specs.Breaches.{PortsHaveOneSource, IsFirstFailing}
use Rattle.u_determinate.specs.Tables.{is_one_source, has_one_source, first_of_both, AreFrom, AreSources, PortIsFed, PortsBelowAreFed}
use Rattle.u_determinate.proofs.NumberFacts.{one_statement, number_within, place_number}
use Rattle.u_determinate.proofs.SourceTables.{one_source, no_one_source}

or_false : (a b : Bool) → (a || b) ≡ false → (a ≡ false) × (b ≡ false)
or_false true b e = absurd (false≢true (sym e))
or_false false b e = (refl, e)

module _ (ss : List StatementParts) (i : ℕ) (s : StatementParts) (at : slice_get ss i ≡ Some s) (port : ℕ) (t : List Sources) (w : AreSources ss port t) where
  -- what the table says of this statement
  here : AreFrom ss (i + 1) port (2 * (length ss + 1)) 0 (get_or t i Nothing)
  here =
      let n = number_within ss (i + 1) s (place_number ss i s at) in
      let e : i + 1 - 1 ≡ i = omega arith in
      subst (λ (k : ℕ). AreFrom ss (i + 1) port (2 * (length ss + 1)) 0 (get_or t k Nothing)) e (w.each (i + 1) n)

  kind_of : (u : StatementParts) → statement_at ss (i + 1) ≡ Some u → u.kind ≡ s.kind
  kind_of u q = ap (λ (x : StatementParts). x.kind) (one_statement ss (i + 1) u s q (place_number ss i s at))

  pub fed : has_one_source s.kind port (get_or t i Nothing) ≡ true → PortIsFed ss port (i + 1)
  fed e u q o h =
      let k = kind_of u q in
      let o' : comes_from_outside s.kind ≡ false = subst (λ (z : Kind). comes_from_outside z ≡ false) k o in
      let h' : port ≤ ports_of s.kind = subst (λ (z : Kind). port ≤ ports_of z) k h in
      elim (or_cases (comes_from_outside s.kind) (nat_lt (ports_of s.kind) port || is_one_source (get_or t i Nothing)) e) [
        | inl x ↦ (let a : false ≡ true = rw o' at x in absurd (false≢true a))
        | inr x ↦ elim (or_cases (nat_lt (ports_of s.kind) port) (is_one_source (get_or t i Nothing)) x) [
          | inl y ↦ (let l = ltb-true (ports_of s.kind) port y in absurd (omega (arith, l, h')))
          | inr y ↦ one_source ss (i + 1) port (get_or t i Nothing) here y
        ]
      ]

  pub not_fed : has_one_source s.kind port (get_or t i Nothing) ≡ false → PortIsFed ss port (i + 1) → ⊥
  not_fed e asks =
      let o = or_false (comes_from_outside s.kind) (nat_lt (ports_of s.kind) port || is_one_source (get_or t i Nothing)) e in
      let p = or_false (nat_lt (ports_of s.kind) port) (is_one_source (get_or t i Nothing)) o.1 in
      no_one_source ss (i + 1) port (get_or t i Nothing) here p.1
      (asks s (place_number ss i s at) o.0 (ltb-false (ports_of s.kind) port p.0))

-- the first number of which one of two does not hold
both_first : (P Q : ℕ → Type 0) (a b : Option ℕ) → IsFirstFailing P a → IsFirstFailing Q b → IsFirstFailing (λ (n : ℕ). P n × Q n) (first_of_both a b)
both_first P Q None None p q = λ n. (p n, q n)
both_first P Q None (Some n) p q = (λ k. q.0 k.1, λ m h. (p m, q.1 m h))
both_first P Q (Some m) None p q = (λ k. p.0 k.0, λ j h. (p.1 j h, q j))
both_first P Q (Some m) (Some n) p q = by (nat_lt n m) refl
  where
    by : (z : Bool) → nat_lt n m ≡ z → IsFirstFailing (λ (n : ℕ). P n × Q n) (if z then Some n else Some m)
    by true e =
        let l = ltb-true n m e in
        (λ k. q.0 k.1, λ j h. (p.1 j (omega (arith, h, l)), q.1 j h))
    by false e =
        let l = ltb-false n m e in
        (λ k. p.0 k.0, λ j h. (p.1 j h, q.1 j (omega (arith, h, l))))

-- what says the same has the same first number
alike_first : (P Q : ℕ → Type 0) → ((n : ℕ) → P n → Q n) → ((n : ℕ) → Q n → P n) → (o : Option ℕ) → IsFirstFailing P o → IsFirstFailing Q o
alike_first P Q to back None w = λ n. to n (w n)
alike_first P Q to back (Some n) w = (λ k. w.0 (back n k), λ m h. to m (w.1 m h))

module _ (ss : List StatementParts) where
  pub no_port : IsFirstFailing (PortsBelowAreFed ss 1) None
  no_port = λ n p a b. absurd (omega (arith, a, b))

  -- one port more
  pub next_port : (port : ℕ) → 1 ≤ port → (a b : Option ℕ) → IsFirstFailing (PortsBelowAreFed ss port) a → IsFirstFailing (PortIsFed ss port) b → IsFirstFailing (PortsBelowAreFed ss (port + 1)) (first_of_both a b)
  next_port port from a b v w =
      alike_first (λ (n : ℕ). PortsBelowAreFed ss port n × PortIsFed ss port n) (PortsBelowAreFed ss (port + 1))
      (λ n k p f l. below_more (λ (p : ℕ). 1 ≤ p → PortIsFed ss p n) port (λ p l f. k.0 p f l) (λ f. k.1) p l f)
      (λ n k. (λ p f l. k p f (omega (arith, l)), k port from (omega arith)))
      (first_of_both a b) (both_first (PortsBelowAreFed ss port) (PortIsFed ss port) a b v w)

  pub all_ports : (a : Option ℕ) → IsFirstFailing (PortsBelowAreFed ss 6) a → IsFirstFailing (PortsHaveOneSource ss) a
  all_ports a w =
      alike_first (PortsBelowAreFed ss 6) (PortsHaveOneSource ss)
      (λ n k s e o port h. k port h.0 (let m = (few_ports s.kind).1 in omega (arith, m, h.1)) s e o h.1)
      (λ n k p f l s e o h. k s e o p (f, h)) a w
