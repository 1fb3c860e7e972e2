-- What the tests of a loop's `next`s and `last`s are, statement by statement.
use Rattle.std.proofs.Common.{◌≡◌, ℕ, ◌+◌, ◌-◌, ◌*◌, ◌<◌, ◌≤◌, inl, inr, refl, sym, ap, ◌∙◌, subst, arith, Bool, true, false, ◌==◌, ◌&&◌, ◌||◌, not, eq-eqb, List, length, get_or, replicate, Option, Some, None, ◌↔◌}
use Rattle.std.specs.Prelude.{slice_get, if◌then◌else◌, IsTrue}
use Rattle.std.proofs.lemmas.Bool.{false≢true, eqb-true, and_parts}
use Rattle.std.proofs.lemmas.List.{length-replicate, get_or-replicate}
use Rattle.std.proofs.Math.Bool.{beq}
use Rattle.u_name.specs.Context.{IsBetween}
use Rattle.u_program.specs.declared.program.Kind.TheVariants as kinds
use Rattle.u_program.specs.Parts.{StatementParts}
use Rattle.u_check.specs.Rules.{statement_at, Arc}
use Rattle.u_determinate.specs.declared.sources.Source.{Source}
use Rattle.u_determinate.specs.declared.sources.Sources.TheVariants as sources
use Rattle.u_determinate.specs.declared.sources.Sources.{Sources}
use Rattle.u_determinate.specs.declared.guards.Guards.{Guards}
use Rattle.u_determinate.specs.declared.guards.Guards.TheVariants.{Nothing, One, Many}
use Rattle.u_determinate.specs.Arcs.{OnlyArc}
use Rattle.u_determinate.specs.Strict.{IsGuarded, IsTested, is_test}
use Rattle.u_determinate.specs.Tables.{side_of, only_source, is_switch, is_switch_of, is_test_of, is_tested, GuardOf, GuardsAll, GuardsFirst, AreGuards, with_guard, GuardsBefore, PossibleTest, PossibleBefore, AreFrom, AreSources}
use Rattle.u_determinate.proofs.CallTables.{below_more_number}
use Rattle.u_determinate.proofs.KindFacts.{switch_kind, next_or_last}
use Rattle.u_determinate.proofs.NumberFacts.{one_statement, number_within, place_number}
use Rattle.u_determinate.proofs.SourceTables.{Only, only, no_only}

-- whether two lists of a `switch` are on one side
pub same_side : (a b : Bool) → not (beq a b) ≡ false → a ≡ b
same_side true true e = refl
same_side true false e = absurd (false≢true (sym e))
same_side false true e = absurd (false≢true (sym e))
same_side false false e = refl

pub not_same_side : (a b : Bool) → not (beq a b) ≡ true → a ≡ b → ⊥
not_same_side true true e q = false≢true e
not_same_side true false e q = false≢true (sym q)
not_same_side false true e q = false≢true q
not_same_side false false e q = false≢true e

-- a `next` or `last` has one test
pub same_test : (ss : List StatementParts) (l t u : ℕ) (f : Bool) (n : ℕ) → IsGuarded ss l t f n → IsGuarded ss l u f n → t ≡ u
same_test ss l t u f n p q =
    let a : p.arc ≡ q.arc = q.alone.only p.arc p.alone.leads in
    let c : OnlyArc ss p.arc.statement 2 q.control = subst (λ (x : Arc). OnlyArc ss x.statement 2 q.control) (sym a) q.controls in
    let e : p.control ≡ q.control = c.only p.control p.controls.leads in
    sym p.test ∙ ap (λ (x : Arc). x.statement) e ∙ q.test

-- The test of the `next` or `last` at a place.
module _ (ss : List StatementParts) (i : ℕ) (s : StatementParts) (at : slice_get ss i ≡ Some s) (inputs controls : List Sources) (wi : AreSources ss 1 inputs) (wc : AreSources ss 2 controls) (f : Bool) where
  stands : statement_at ss (i + 1) ≡ Some s
  stands = place_number ss i s at

  at_number : (port : ℕ) (t : List Sources) → AreSources ss port t → (n : ℕ) → IsBetween 1 n (length ss) → AreFrom ss n port (2 * (length ss + 1)) 0 (get_or t (n - 1) sources.Nothing)
  at_number port t w n h = w.each n h

  input_here : AreFrom ss (i + 1) 1 (2 * (length ss + 1)) 0 (get_or inputs i sources.Nothing)
  input_here =
      let e : i + 1 - 1 ≡ i = omega arith in
      subst (λ (k : ℕ). AreFrom ss (i + 1) 1 (2 * (length ss + 1)) 0 (get_or inputs k sources.Nothing)) e (wi.each (i + 1) (number_within ss (i + 1) s stands))

  pub no_input : only_source (get_or inputs i sources.Nothing) ≡ None → GuardOf ss (i + 1) f None
  no_input e u q t g = no_only ss (i + 1) 1 (get_or inputs i sources.Nothing) input_here e g.arc g.alone

  module _ (a : Source) (is : only_source (get_or inputs i sources.Nothing) ≡ Some a) where
    pub input : Only ss (i + 1) 1 a
    input = only ss (i + 1) 1 (get_or inputs i sources.Nothing) a input_here is

    -- its statement is one of the block
    pub from_within : IsBetween 1 a.statement (length ss)
    from_within =
        let w = number_within ss input.arc.statement input.from.it input.from.stands in
        subst (λ (n : ℕ). IsBetween 1 n (length ss)) input.from.statement w

    -- that statement, by whatever guards this one
    guarding : (u : StatementParts) (t : ℕ) (g : IsGuarded ss u.region t f (i + 1)) → (g.arc.statement ≡ a.statement) × (g.arc.on_false ≡ a.on_false)
    guarding u t g =
        let e : g.arc ≡ input.arc = input.alone.only g.arc g.alone.leads in
        (ap (λ (x : Arc). x.statement) e ∙ input.from.statement, ap (λ (x : Arc). x.on_false) e ∙ input.from.side)

    pub other_side : (a.on_false ≡ f → ⊥) → GuardOf ss (i + 1) f None
    other_side away u q t g = away (sym (guarding u t g).1 ∙ g.side)

    pub no_switch : is_switch_of (statement_at ss a.statement) s.region ≡ false → GuardOf ss (i + 1) f None
    no_switch e u q t g =
        let k : statement_at ss a.statement ≡ Some g.switch.it = ap (statement_at ss) (sym (guarding u t g).0) ∙ g.switch.stands in
        let r : g.switch.it.region ≡ s.region = g.region ∙ ap (λ (x : StatementParts). x.region) (one_statement ss (i + 1) u s q stands) in
        let b : (is_switch g.switch.it.kind && g.switch.it.region == s.region) ≡ false = subst (λ (o : Option StatementParts). is_switch_of o s.region ≡ false) k e in
        let x : is_switch g.switch.it.kind ≡ true = ap is_switch g.switch.kind in
        let y : (g.switch.it.region == s.region) ≡ true = eq-eqb g.switch.it.region s.region r in
        let z : (true && g.switch.it.region == s.region) ≡ false = subst (λ (v : Bool). (v && g.switch.it.region == s.region) ≡ false) x b in
        false≢true (sym z ∙ y)

    control_here : AreFrom ss a.statement 2 (2 * (length ss + 1)) 0 (get_or controls (a.statement - 1) sources.Nothing)
    control_here = wc.each a.statement from_within

    pub no_control : only_source (get_or controls (a.statement - 1) sources.Nothing) ≡ None → GuardOf ss (i + 1) f None
    no_control e u q t g =
        no_only ss a.statement 2 (get_or controls (a.statement - 1) sources.Nothing) control_here e g.control (subst (λ (n : ℕ). OnlyArc ss n 2 g.control) (guarding u t g).0 g.controls)

    switch_at : (o : Option StatementParts) (r : ℕ) → is_switch_of o r ≡ true → (x : StatementParts) × (o ≡ Some x) × (x.kind ≡ kinds.Switch) × (x.region ≡ r)
    switch_at None r e = absurd (false≢true e)
    switch_at (Some x) r e =
        let p = and_parts (is_switch x.kind) (x.region == r) e in
        (x, refl, switch_kind x.kind p.0, eqb-true x.region r p.1)

    pub guarded : (c : Source) → a.on_false ≡ f → is_switch_of (statement_at ss a.statement) s.region ≡ true → only_source (get_or controls (a.statement - 1) sources.Nothing) ≡ Some c → GuardOf ss (i + 1) f (Some c.statement)
    guarded c side sw e u q =
        let x = switch_at (statement_at ss a.statement) s.region sw in
        let o = only ss a.statement 2 (get_or controls (a.statement - 1) sources.Nothing) c control_here e in
        record {
          arc = input.arc;
          alone = input.alone;
          side = input.from.side ∙ side;
          switch = record { it = x.0; stands = ap (statement_at ss) input.from.statement ∙ x.1; kind = x.2 };
          region = x.3 ∙ ap (λ (z : StatementParts). z.region) (one_statement ss (i + 1) s u stands q);
          control = o.arc;
          controls = subst (λ (n : ℕ). OnlyArc ss n 2 o.arc) (sym input.from.statement) o.alone;
          test = o.from.statement;
        }

-- One statement more.
module _ (ss : List StatementParts) (i : ℕ) (s : StatementParts) (at : slice_get ss i ≡ Some s) where
  stands_here : statement_at ss (i + 1) ≡ Some s
  stands_here = place_number ss i s at

  same : (n : ℕ) (r : StatementParts) → n ≡ i + 1 → statement_at ss n ≡ Some r → s ≡ r
  same n r e q = one_statement ss (i + 1) s r stands_here (subst (λ (m : ℕ). statement_at ss m ≡ Some r) e q)

  module _ (l : ℕ) where
    skipped : (g : Guards) → ((f : Bool) → s.region ≡ l → side_of s.kind ≡ Some f → ⊥) → AreGuards ss l i g → AreGuards ss l (i + 1) g
    skipped Nothing away w = λ n r f h q k e.
        elim (below_more_number n i h) [ inl b ↦ w n r f b q k e | inr z ↦ (let x = same n r z q in away f (ap (λ (y : StatementParts). y.region) x ∙ k) (ap (λ (y : StatementParts). side_of y.kind) x ∙ e)) ]
    skipped (One t) away w = record {
      guards = λ n r f h q k e. elim (below_more_number n i h) [ inl b ↦ w.guards n r f b q k e | inr z ↦ (let x = same n r z q in absurd (away f (ap (λ (y : StatementParts). y.region) x ∙ k) (ap (λ (y : StatementParts). side_of y.kind) x ∙ e))) ];
      only = w.only;
    }
    skipped Many away w = w

    module _ (f : Bool) (rl : s.region ≡ l) (sd : side_of s.kind ≡ Some f) where
      here_by : (t : ℕ) → GuardOf ss (i + 1) f (Some t) → IsGuarded ss l t f (i + 1)
      here_by t gd = subst (λ (x : ℕ). IsGuarded ss x t f (i + 1)) rl (gd s stands_here)

      none_here : GuardOf ss (i + 1) f None → (u : ℕ) → GuardsAll ss l u → ⊥
      none_here gd u all = gd s stands_here u (subst (λ (x : ℕ). IsGuarded ss x u f (i + 1)) (sym rl) (all (i + 1) s f stands_here rl sd))

      -- the statement here among those of that number
      at_this : (t : ℕ) → GuardOf ss (i + 1) f (Some t) → (n : ℕ) (r : StatementParts) (h : Bool) → n ≡ i + 1 → statement_at ss n ≡ Some r → side_of r.kind ≡ Some h → IsGuarded ss l t h n
      at_this t gd n r h z q e =
          let x : Some f ≡ Some h = sym sd ∙ ap (λ (y : StatementParts). side_of y.kind) (same n r z q) ∙ e in
          let k : f ≡ h = cc in
          subst (λ (m : ℕ). IsGuarded ss l t h m) (sym z) (subst (λ (b : Bool). IsGuarded ss l t b (i + 1)) k (here_by t gd))

      with_same : (t u : ℕ) (b : Bool) → (t == u) ≡ b → GuardsFirst ss l i t → GuardOf ss (i + 1) f (Some u) → AreGuards ss l (i + 1) (if b then One t else Many)
      with_same t u true z w gd =
          let k : u ≡ t = sym (eqb-true t u z) in
          record {
            guards = λ n r h m q k' e. elim (below_more_number n i m) [ inl b ↦ w.guards n r h b q k' e | inr y ↦ subst (λ (x : ℕ). IsGuarded ss l x h n) k (at_this u gd n r h y q e) ];
            only = w.only;
          }
      with_same t u false z w gd = λ v all.
          let x : v ≡ t = w.only v all in
          let y : v ≡ u = same_test ss l v u f (i + 1) (all (i + 1) s f stands_here rl sd) (here_by u gd) in
          false≢true (sym z ∙ eq-eqb t u (sym x ∙ y))

      added : (g : Guards) (o : Option ℕ) → GuardOf ss (i + 1) f o → AreGuards ss l i g → AreGuards ss l (i + 1) (with_guard g o)
      added Nothing None gd w = none_here gd
      added Nothing (Some t) gd w = record {
        guards = λ n r h m q k e. elim (below_more_number n i m) [ inl b ↦ absurd (w n r h b q k e) | inr y ↦ at_this t gd n r h y q e ];
        only = λ u all. same_test ss l u t f (i + 1) (all (i + 1) s f stands_here rl sd) (here_by t gd);
      }
      added (One t) None gd w = none_here gd
      added (One t) (Some u) gd w = with_same t u (t == u) refl w gd
      added Many None gd w = w
      added Many (Some u) gd w = w

  module _ (loops : ℕ) (t : List Guards) (w : GuardsBefore ss loops i t) where
    -- a statement that is no `next` and no `last`
    pub no_guard : side_of s.kind ≡ None → GuardsBefore ss loops (i + 1) t
    no_guard e = record {
      as_long = w.as_long;
      each = λ l h. skipped l (get_or t (l - 1) Nothing) (λ f r q. let k = sym e ∙ q in absurd (cc)) (w.each l h);
    }

    -- a `next` or a `last`, whose test is added to its loop
    pub guard : (f : Bool) (o : Option ℕ) (t' : List Guards) → side_of s.kind ≡ Some f → GuardOf ss (i + 1) f o → length t' ≡ length t → ((l : ℕ) → 1 ≤ l → l ≤ length t → get_or t' (l - 1) Nothing ≡ (if l == s.region then with_guard (get_or t (l - 1) Nothing) o else get_or t (l - 1) Nothing)) → GuardsBefore ss loops (i + 1) t'
    guard f o t' sd gd long new = record {
      as_long = long ∙ w.as_long;
      each = λ l h. by l h (l == s.region) refl (new l h.0 (let k = w.as_long in omega (arith, h.1)));
    }
      where
        by : (l : ℕ) (h : (1 ≤ l) × (l ≤ loops)) (z : Bool) → (l == s.region) ≡ z → get_or t' (l - 1) Nothing ≡ (if l == s.region then with_guard (get_or t (l - 1) Nothing) o else get_or t (l - 1) Nothing) → AreGuards ss l (i + 1) (get_or t' (l - 1) Nothing)
        by l h true z q =
            let r : get_or t' (l - 1) Nothing ≡ with_guard (get_or t (l - 1) Nothing) o = rw z at q in
            let k : s.region ≡ l = sym (eqb-true l s.region z) in
            subst (λ (x : Guards). AreGuards ss l (i + 1) x) (sym r) (added l f k sd (get_or t (l - 1) Nothing) o gd (w.each l h))
        by l h false z q =
            let r : get_or t' (l - 1) Nothing ≡ get_or t (l - 1) Nothing = rw z at q in
            subst (λ (x : Guards). AreGuards ss l (i + 1) x) (sym r) (skipped l (get_or t (l - 1) Nothing) (λ g k e. false≢true (sym z ∙ eq-eqb l s.region (sym k))) (w.each l h))

  -- the same of the kinds that a test can have
  wider : (l : ℕ) → PossibleTest ss l i → PossibleTest ss l (i + 1)
  wider l p = record { test = p.test; it = p.it; before = omega (arith, p.before); stands = p.stands; region = p.region; kind = p.kind }

  narrower : (l : ℕ) → (s.region ≡ l → is_test s.kind ≡ true → ⊥) → PossibleTest ss l (i + 1) → PossibleTest ss l i
  narrower l away p =
      elim (below_more_number p.test i p.before) [
        | inl b ↦ record { test = p.test; it = p.it; before = b; stands = p.stands; region = p.region; kind = p.kind }
        | inr z ↦
            let x = same p.test p.it z p.stands in
            absurd (away (ap (λ (y : StatementParts). y.region) x ∙ p.region) (ap (λ (y : StatementParts). is_test y.kind) x ∙ p.kind))
      ]

  module _ (loops : ℕ) (t : List Bool) (w : PossibleBefore ss loops i t) where
    pub not_possible : is_test s.kind ≡ false → PossibleBefore ss loops (i + 1) t
    not_possible e = record {
      as_long = w.as_long;
      each = λ l h. (λ x. wider l ((w.each l h).0 x), λ p. (w.each l h).1 (narrower l (λ r k. false≢true (sym e ∙ k)) p));
    }

    pub possible : (t' : List Bool) → is_test s.kind ≡ true → length t' ≡ length t → ((l : ℕ) → 1 ≤ l → l ≤ length t → get_or t' (l - 1) false ≡ (l == s.region || get_or t (l - 1) false)) → PossibleBefore ss loops (i + 1) t'
    possible t' k long new = record {
      as_long = long ∙ w.as_long;
      each = λ l h. by l h (l == s.region) refl (new l h.0 (let q = w.as_long in omega (arith, h.1)));
    }
      where
        by : (l : ℕ) (h : (1 ≤ l) × (l ≤ loops)) (z : Bool) → (l == s.region) ≡ z → get_or t' (l - 1) false ≡ (l == s.region || get_or t (l - 1) false) → IsTrue (get_or t' (l - 1) false) ↔ PossibleTest ss l (i + 1)
        by l h true z q =
            let r : get_or t' (l - 1) false ≡ true = rw z at q in
            (λ x. record { test = i + 1; it = s; before = omega arith; stands = stands_here; region = sym (eqb-true l s.region z); kind = k }, λ p. r)
        by l h false z q =
            let r : get_or t' (l - 1) false ≡ get_or t (l - 1) false = rw z at q in
            (λ x. wider l ((w.each l h).0 (sym r ∙ x)), λ p. r ∙ (w.each l h).1 (narrower l (λ y v. false≢true (sym z ∙ eq-eqb l s.region (sym y))) p))

-- Before the first statement.
pub no_guards_yet : (ss : List StatementParts) (loops : ℕ) (t : List Guards) → t ≡ replicate loops Nothing → GuardsBefore ss (length t) 0 t
no_guards_yet ss loops t e = record {
  as_long = refl;
  each = λ l h. subst (λ (x : Guards). AreGuards ss l 0 x) (sym (ap (λ (u : List Guards). get_or u (l - 1) Nothing) e ∙ get_or-replicate loops (l - 1) Nothing Nothing (let k = ap length e ∙ length-replicate loops Nothing in omega (arith, h.0, h.1, k)))) (λ n s f b q k d. let v = number_within ss n s q in omega (arith, v.0, b));
}

pub none_possible_yet : (ss : List StatementParts) (loops : ℕ) (t : List Bool) → t ≡ replicate loops false → PossibleBefore ss (length t) 0 t
none_possible_yet ss loops t e = record {
  as_long = refl;
  each = λ l h. (λ x. absurd (false≢true (sym (ap (λ (u : List Bool). get_or u (l - 1) false) e ∙ get_or-replicate loops (l - 1) false false (let k = ap length e ∙ length-replicate loops false in omega (arith, h.0, h.1, k))) ∙ x)), λ p. (let v = number_within ss p.test p.it p.stands in let b = p.before in absurd (omega (arith, v.0, b))));
}

-- What a table says of the loop at a place.
pub guards_at : (ss : List StatementParts) (loops count : ℕ) (t : List Guards) (i : ℕ) → GuardsBefore ss loops count t → i < loops → AreGuards ss (i + 1) count (get_or t i Nothing)
guards_at ss loops count t i w h =
    let e : i + 1 - 1 ≡ i = omega arith in
    subst (λ (k : ℕ). AreGuards ss (i + 1) count (get_or t k Nothing)) e (w.each (i + 1) (omega arith, omega arith))

pub possible_at : (ss : List StatementParts) (loops count : ℕ) (t : List Bool) (i : ℕ) → PossibleBefore ss loops count t → i < loops → IsTrue (get_or t i false) ↔ PossibleTest ss (i + 1) count
possible_at ss loops count t i w h =
    let e : i + 1 - 1 ≡ i = omega arith in
    subst (λ (k : ℕ). IsTrue (get_or t k false) ↔ PossibleTest ss (i + 1) count) e (w.each (i + 1) (omega arith, omega arith))

-- What both tables say of a loop.
module _ (ss : List StatementParts) (l : ℕ) where
  all_of : (p : IsTested ss l) → GuardsAll ss l p.test
  all_of p n s f q k e =
      elim (next_or_last s.kind f e) [
        | inl x ↦ subst (λ (g : Bool). IsGuarded ss l p.test g n) (sym x.1) (p.nexts n s q k x.0)
        | inr x ↦ subst (λ (g : Bool). IsGuarded ss l p.test g n) (sym x.1) (p.lasts n s q k x.0)
      ]

  test_at : (o : Option StatementParts) → is_test_of o l ≡ true → (x : StatementParts) × (o ≡ Some x) × (x.region ≡ l) × (is_test x.kind ≡ true)
  test_at None e = absurd (false≢true e)
  test_at (Some x) e = let p = and_parts (x.region == l) (is_test x.kind) e in (x, refl, eqb-true x.region l p.0, p.1)

  pub tested : (g : Guards) (b : Bool) → AreGuards ss l (length ss) g → (IsTrue b ↔ PossibleTest ss l (length ss)) → is_tested ss l g b ≡ true → IsTested ss l
  tested Nothing b w p e =
      let t = p.0 e in
      record {
        test = t.test;
        it = t.it;
        stands = t.stands;
        region = t.region;
        kind = t.kind;
        nexts = λ n s q r k. absurd (w n s false (number_within ss n s q).1 q r (ap side_of k));
        lasts = λ n s q r k. absurd (w n s true (number_within ss n s q).1 q r (ap side_of k));
      }
  tested (One t) b w p e =
      let x = test_at (statement_at ss t) e in
      record {
        test = t;
        it = x.0;
        stands = x.1;
        region = x.2;
        kind = x.3;
        nexts = λ n s q r k. w.guards n s false (number_within ss n s q).1 q r (ap side_of k);
        lasts = λ n s q r k. w.guards n s true (number_within ss n s q).1 q r (ap side_of k);
      }
  tested Many b w p e = absurd (false≢true e)

  pub not_tested : (g : Guards) (b : Bool) → AreGuards ss l (length ss) g → (IsTrue b ↔ PossibleTest ss l (length ss)) → is_tested ss l g b ≡ false → IsTested ss l → ⊥
  not_tested Nothing b w p e v =
      false≢true (sym e ∙ p.1 (record { test = v.test; it = v.it; before = (number_within ss v.test v.it v.stands).1; stands = v.stands; region = v.region; kind = v.kind }))
  not_tested (One t) b w p e v =
      let z : v.test ≡ t = w.only v.test (all_of v) in
      let q : statement_at ss t ≡ Some v.it = ap (statement_at ss) (sym z) ∙ v.stands in
      let k : (v.it.region == l && is_test v.it.kind) ≡ false = subst (λ (o : Option StatementParts). is_test_of o l ≡ false) q e in
      let x : (true && is_test v.it.kind) ≡ false = subst (λ (y : Bool). (y && is_test v.it.kind) ≡ false) (eq-eqb v.it.region l v.region) k in
      false≢true (sym x ∙ v.kind)
  not_tested Many b w p e v = w v.test (all_of v)
