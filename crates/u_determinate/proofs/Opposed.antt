-- What excludes: of two arcs or two statements one control has opposite guards.
use Rattle.std.proofs.Common.{◌≡◌, ℕ, zero, suc, ◌+◌, ◌<◌, refl, ap, sym, ◌∙◌, arith, subst, Bool, true, false, not, ◌==◌, eq-eqb, List, length, Some, inl, inr, ◌⊎◌}
use Rattle.std.specs.Prelude.{Contains, IsTrue, ◌↔◌}
use Rattle.std.proofs.lemmas.Bool.{false≢true, eqb-true, cases_order}
use Rattle.u_program.specs.declared.program.Kind.{Kind}
use Rattle.u_program.specs.declared.program.Kind.TheVariants.{Next, Last, Apply, Back}
use Rattle.u_program.specs.Parts.{StatementParts}
use Rattle.u_check.specs.Kinds.{back_named}
use Rattle.u_check.specs.Rules.{statement_at, Arc}
use Rattle.u_determinate.specs.Arcs.{Leads}
use Rattle.u_determinate.specs.Guards.{Stands, Applies, Rounds, PassedOn, ArcOf, StatementOf, HasGuard, ArcHasGuard}
use Rattle.u_determinate.specs.Determinate.{OneApply}
use Rattle.u_determinate.specs.Meetings.{IsLastOf, LastsExclude, NextExcludes}
use Rattle.u_determinate.specs.declared.incoming.Link.{Link}
use Rattle.u_determinate.specs.declared.sides.ControlMarks.{ControlMarks}
use Rattle.u_determinate.specs.Flow.{arc_of, AreLinks, IsMarked, AreMarks, is_behind, StandsBehind}
use Rattle.u_determinate.proofs.Links.{link, split, number_within, stands_of}
use Rattle.u_determinate.proofs.Rounds.{arc_more}

-- What a control guards that is no statement, number 0 guards too: no arc from a `switch` has it.
module _ (ss : List StatementParts) (c : ℕ) (past : length ss < c) where
  no_source : (k n : ℕ) (s : StatementParts) → statement_at ss n ≡ Some s → Rounds (PassedOn ss c) k n → ⊥
  no_source zero n s e h = h
  no_source (suc k) n s e (inl q) = (let w = number_within ss n s e in omega (arith, w.1, q, past))
  no_source (suc k) n s e (inr p) = (let t = stands_of ss p.arc _ p.only.leads in no_source k p.arc.statement t.0 t.1 p.from)

  past_arc : (value : Bool) (P Q : ℕ → Type 0) → ((n : ℕ) → P n → Q n) → (a : Arc) → ArcOf ss c value P a → ArcOf ss 0 value Q a
  past_arc value P Q sub a (inl h) = inl (record { it = h.it; stands = h.stands; kind = h.kind; has = sub a.statement h.has })
  past_arc value P Q sub a (inr (inl h)) = absurd (let t = stands_of ss h.control _ h.controls.leads in no_source h.source.0 h.control.statement t.0 t.1 h.source.1)
  past_arc value P Q sub a (inr (inr h)) = inr (inr (record { leave = h.leave; has = λ n s. sub n (h.has n s) }))

  past_rounds : (value : Bool) (k n : ℕ) → Rounds (StatementOf ss c value) k n → Rounds (StatementOf ss 0 value) k n
  past_rounds value zero n h = absurd h
  past_rounds value (suc k) n (inl h) = inl (record { it = h.it; stands = h.stands; takes = h.takes; port = h.port; exists = h.exists; all = λ a l. past_arc value (Rounds (StatementOf ss c value) k) (Rounds (StatementOf ss 0 value) k) (past_rounds value k) a (h.all a l) })
  past_rounds value (suc k) n (inr h) = inr (record { back = h.back; all = λ m s. past_rounds value k m (h.all m s) })

  pub past_guard : (value : Bool) (n : ℕ) → HasGuard ss c value n → HasGuard ss 0 value n
  past_guard value n h = (h.0, past_rounds value h.0 n h.1)

  pub past_arc_guard : (value : Bool) (a : Arc) → ArcHasGuard ss c value a → ArcHasGuard ss 0 value a
  past_arc_guard value a h = past_arc value (HasGuard ss c value) (HasGuard ss 0 value) (past_guard value) a h

module _ (X : Type 0) (Has : ℕ → Bool → X → Type 0) where
  abbrev pub AreOpposed : ℕ → X → X → Type 0
  AreOpposed c a b = (Has c true a × Has c false b) ⊎ (Has c true b × Has c false a)

  abbrev pub AreExcluded : X → X → Type 0
  AreExcluded a b = (c : ℕ) × (value : Bool) × Has c value a × Has c (not value) b

  pub excluded_of : (c : ℕ) (a b : X) → AreOpposed c a b → AreExcluded a b
  excluded_of c a b (inl h) = (c, true, h.0, h.1)
  excluded_of c a b (inr h) = (c, false, h.1, h.0)

  opposed_of : (c : ℕ) (value : Bool) (a b : X) → Has c value a → Has c (not value) b → AreOpposed c a b
  opposed_of c true a b p q = inl (p, q)
  opposed_of c false a b p q = inr (q, p)

  -- no control does, if none up to the last statement does
  pub none_excludes : (count : ℕ) → ((c : ℕ) → count < c → (value : Bool) (x : X) → Has c value x → Has 0 value x) → (a b : X) → ((c : ℕ) → c < count + 1 → AreOpposed c a b → ⊥) → AreExcluded a b → ⊥
  none_excludes count past a b none (c, value, p, q) =
      elim (cases_order c count) [
        | inl e ↦ none c (omega (arith, e)) (opposed_of c value a b p q)
        | inr y ↦ elim y [
          | inl l ↦ none c (omega (arith, l)) (opposed_of c value a b p q)
          | inr l ↦ none 0 (omega arith) (opposed_of 0 value a b (past c l value a p) (past c l (not value) b q))
        ]
      ]

pub side_of : (ss : List StatementParts) (c : ℕ) (value : Bool) (marks : List Bool) → ((n : ℕ) → IsMarked marks n ↔ HasGuard ss c value n) → (a : Arc) (b : Bool) → (IsTrue b ↔ ArcOf ss c value (IsMarked marks) a) → IsTrue b ↔ ArcHasGuard ss c value a
side_of ss c value marks h a b e =
    ((λ t. arc_more ss c value (IsMarked marks) (HasGuard ss c value) (λ n. (h n).0) a (e.0 t)), λ g. e.1 (arc_more ss c value (HasGuard ss c value) (IsMarked marks) (λ n. (h n).1) a g))

pub own_marks : (ss : List StatementParts) (c : ℕ) (m : ControlMarks) → AreMarks ss c m → AreMarks ss m.control m
own_marks ss c m h = subst (λ (i : ℕ). AreMarks ss i m) (sym h.control) h

called : (n : ℕ) (s : StatementParts) (k j : Kind) → k ≡ Back → is_behind n s k j ≡ true → back_named j ≡ Some n
called n s Back (Apply m c) q e = ap (λ (i : ℕ). Some i) (eqb-true m n e)
called n s Back j q e = absurd (false≢true e)
called n s k j q e = absurd (cc)

calling : (n : ℕ) (s : StatementParts) (j : Kind) → back_named j ≡ Some n → is_behind n s Back j ≡ true
calling n s (Apply m c) e = eq-eqb m n (cc)
calling n s j e = absurd (cc)

-- what stands behind a `back` is each `apply` that names it
pub calls_one : (ss : List StatementParts) (n : ℕ) → Stands ss n Back → (ms : List ℕ) → ((m : ℕ) → Contains ms m ↔ StandsBehind ss n m) → (b : Bool) → (IsTrue b ↔ ((i j : ℕ) → Contains ms i → Contains ms j → i ≡ j)) → IsTrue b ↔ OneApply ss n
calls_one ss n back ms h b e =
    ((λ t i j x y. e.0 t i j ((h i).1 (to i x)) ((h j).1 (to j y))), λ o. e.1 (λ i j x y. o i j (of i ((h i).0 x)) (of j ((h j).0 y))))
  where
    to : (m : ℕ) → Applies ss m n → StandsBehind ss n m
    to m t = (back.it, back.stands, record { it = t.it; stands = t.stands; names = rw back.kind (calling n back.it t.it.kind t.names) })

    of : (m : ℕ) → StandsBehind ss n m → Applies ss m n
    of m x =
        let z : Some x.0 ≡ Some back.it = sym x.1 ∙ back.stands in
        let q : x.0 ≡ back.it = cc in
        record { it = x.2.it; stands = x.2.stands; names = called n x.0 x.0.kind x.2.it.kind (ap (λ (s : StatementParts). s.kind) q ∙ back.kind) x.2.names }

-- what holds of the links to a statement holds of the arcs to it
pub arcs_of : (ss : List StatementParts) (n : ℕ) (links : List Link) → AreLinks ss n links → (M : Arc → Arc → Type 0) → (b : Bool) → (IsTrue b ↔ ((j k : Link) → Contains links j → Contains links k → k.port ≡ j.port → M (arc_of j) (arc_of k))) → IsTrue b ↔ ((port : ℕ) (x y : Arc) → Leads ss n port x → Leads ss n port y → M x y)
arcs_of ss n links h M b e =
    ((λ t port x y p q. e.0 t (link x.statement x.on_false x.place port) (link y.statement y.on_false y.place port) ((h (link x.statement x.on_false x.place port)).1 p) ((h (link y.statement y.on_false y.place port)).1 q) refl), λ g. e.1 (λ j k x y q. g j.port (arc_of j) (arc_of k) ((h j).0 x) (subst (λ (p : ℕ). Leads ss n p (arc_of k)) q ((h k).0 y))))

pub last_of : (ss : List StatementParts) (region n : ℕ) (s : StatementParts) → statement_at ss n ≡ Some s → s.kind ≡ Last → (r : ℕ) → r ≡ s.region → IsTrue (r == region) ↔ IsLastOf ss region n
last_of ss region n s e k r q =
    ((λ t. (record { it = s; stands = e; kind = k }, sym q ∙ eqb-true r region t)), λ x. eq-eqb r region (q ∙ ap (λ (u : StatementParts). u.region) (same x.0.it x.0.stands) ∙ x.1))
  where
    same : (t : StatementParts) → statement_at ss n ≡ Some t → s ≡ t
    same t z = let y : Some s ≡ Some t = sym e ∙ z in cc

-- it holds of each number before the next one
pub below_next : (P : ℕ → Type 0) (k : ℕ) → ((n : ℕ) → n < k → P n) → P k → (n : ℕ) → n < k + 1 → P n
below_next P k h p n l = elim (split n k l) [ inl m ↦ h n m | inr e ↦ subst P (sym e) p ]

pub next_of : (ss : List StatementParts) (n : ℕ) (s : StatementParts) → statement_at ss n ≡ Some s → s.kind ≡ Next → (r : ℕ) → r ≡ s.region → (b : Bool) → (IsTrue b ↔ LastsExclude ss r n) → IsTrue b ↔ NextExcludes ss n
next_of ss n s e k r q b h =
    ((λ t next. subst (λ (i : ℕ). LastsExclude ss i n) (q ∙ ap (λ (u : StatementParts). u.region) (same next.it next.stands)) (h.0 t)), λ f. h.1 (subst (λ (i : ℕ). LastsExclude ss i n) (sym q) (f (record { it = s; stands = e; kind = k }))))
  where
    same : (t : StatementParts) → statement_at ss n ≡ Some t → s ≡ t
    same t z = let y : Some s ≡ Some t = sym e ∙ z in cc
