-- Which arcs have a guard, by the kind of statement that they come from.
use Rattle.std.proofs.Common.{◌≡◌, ℕ, ◌+◌, ◌<◌, ◌≤◌, arith, length, refl, ap, sym, ◌∙◌, subst, Bool, true, false, eq-eqb, List, Some, None, inl, inr, ◌⊎◌}
use Rattle.std.specs.Prelude.{◌↔◌, IsTrue}
use Rattle.std.proofs.lemmas.Bool.{false≢true, eqb-true}
use Rattle.u_program.specs.declared.program.Kind.{Kind}
use Rattle.u_program.specs.declared.program.Kind.TheVariants.{Begin, Param, Switch, Enter, Leave, Back}
use Rattle.u_program.specs.declared.program.Parameter.{Parameter}
use Rattle.u_program.specs.Parts.{StatementParts}
use Rattle.u_name.specs.Context.{IsBetween}
use Rattle.u_check.specs.Kinds.{ports_of, comes_from_outside}
use Rattle.u_check.specs.Rules.{statement_at, Arc}
use Rattle.u_determinate.specs.Arcs.{Leads}
use Rattle.u_determinate.specs.Guards.{Stands, stays, IsPassed, ArcOf, StatementOf, FromLeave}
use Rattle.u_determinate.specs.Flow.{is_behind, StandsBehind, AllBehind, IsSide, SomePort}
use Rattle.u_determinate.proofs.Links.{split, number_within}

one_at : (ss : List StatementParts) (n : ℕ) (s t : StatementParts) → statement_at ss n ≡ Some s → statement_at ss n ≡ Some t → s ≡ t
one_at ss n s t e q = let z : Some s ≡ Some t = sym e ∙ q in cc

-- what stands behind a `leave` is each `enter` of its loop
behind_leave : (ss : List StatementParts) (n m : ℕ) (s : StatementParts) → statement_at ss n ≡ Some s → s.kind ≡ Leave → Stands ss m (Enter s.region) → StandsBehind ss n m
behind_leave ss n m s e k t =
    (s, e, record { it = t.it; stands = t.stands; names = rw k (rw t.kind (eq-eqb s.region s.region refl)) })

enters : (n : ℕ) (s : StatementParts) (k j : Kind) → k ≡ Leave → is_behind n s k j ≡ true → j ≡ Enter s.region
enters n s Leave (Enter l) q e = ap (λ (i : ℕ). Enter i) (eqb-true l s.region e)
enters n s Leave j q e = absurd (false≢true e)
enters n s k j q e = absurd (cc)

module _ (ss : List StatementParts) (c : ℕ) (value : Bool) (P : ℕ → Type 0) (a : Arc) where
  pub arc_nowhere : statement_at ss a.statement ≡ None → ArcOf ss c value P a → ⊥
  arc_nowhere e (inl h) = (let z : None ≡ Some h.it = sym e ∙ h.stands in cc)
  arc_nowhere e (inr (inl h)) = (let z : None ≡ Some h.switch.it = sym e ∙ h.switch.stands in cc)
  arc_nowhere e (inr (inr h)) = (let z : None ≡ Some h.leave.it = sym e ∙ h.leave.stands in cc)

  module _ (s : StatementParts) (e : statement_at ss a.statement ≡ Some s) where
    pub arc_none : stays s.kind ≡ false → (s.kind ≡ Switch → ⊥) → (s.kind ≡ Leave → ⊥) → ArcOf ss c value P a → ⊥
    arc_none k x y (inl h) = false≢true (sym k ∙ ap (λ (t : StatementParts). stays t.kind) (one_at ss a.statement s h.it e h.stands) ∙ h.kind)
    arc_none k x y (inr (inl h)) = x (ap (λ (t : StatementParts). t.kind) (one_at ss a.statement s h.switch.it e h.switch.stands) ∙ h.switch.kind)
    arc_none k x y (inr (inr h)) = y (ap (λ (t : StatementParts). t.kind) (one_at ss a.statement s h.leave.it e h.leave.stands) ∙ h.leave.kind)

    pub arc_leave : s.kind ≡ Leave → ArcOf ss c value P a ↔ AllBehind ss P a.statement
    arc_leave k = (to, back)
      where
        to : ArcOf ss c value P a → AllBehind ss P a.statement
        to (inl h) = absurd (false≢true (ap stays (sym k) ∙ ap (λ (t : StatementParts). stays t.kind) (one_at ss a.statement s h.it e h.stands) ∙ h.kind))
        to (inr (inl h)) = absurd (let z : Leave ≡ Switch = sym k ∙ ap (λ (t : StatementParts). t.kind) (one_at ss a.statement s h.switch.it e h.switch.stands) ∙ h.switch.kind in cc)
        to (inr (inr h)) = λ m b. entered h m b
          where
            entered : (h : FromLeave ss P a) (m : ℕ) → StandsBehind ss a.statement m → P m
            entered h m b =
                let x = one_at ss a.statement h.leave.it b.0 h.leave.stands b.1 in
                h.has m (record { it = b.2.it; stands = b.2.stands; kind = enters a.statement b.0 b.0.kind b.2.it.kind (ap (λ (t : StatementParts). t.kind) (sym x) ∙ h.leave.kind) b.2.names ∙ ap (λ (t : StatementParts). Enter t.region) (sym x) })

        back : AllBehind ss P a.statement → ArcOf ss c value P a
        back h = inr (inr (record { leave = record { it = s; stands = e; kind = k }; has = λ n t. h n (behind_leave ss a.statement n s e k t) }))

    pub arc_switch : s.kind ≡ Switch → ArcOf ss c value P a ↔ (P a.statement ⊎ IsSide ss (IsPassed ss c) value a)
    arc_switch k = (to, back)
      where
        to : ArcOf ss c value P a → P a.statement ⊎ IsSide ss (IsPassed ss c) value a
        to (inl h) = inl h.has
        to (inr (inl h)) = inr (h.side, (h.control, h.controls, h.source))
        to (inr (inr h)) = absurd (let z : Switch ≡ Leave = sym k ∙ ap (λ (t : StatementParts). t.kind) (one_at ss a.statement s h.leave.it e h.leave.stands) ∙ h.leave.kind in cc)

        back : P a.statement ⊎ IsSide ss (IsPassed ss c) value a → ArcOf ss c value P a
        back (inl h) = inl (record { it = s; stands = e; kind = ap stays k; has = h })
        back (inr h) = inr (inl (record { switch = record { it = s; stands = e; kind = k }; side = h.0; control = h.1.0; controls = h.1.1; source = h.1.2 }))

    pub arc_beside : stays s.kind ≡ true → (s.kind ≡ Switch → ⊥) → ArcOf ss c value P a ↔ P a.statement
    arc_beside k x = (to, λ h. inl (record { it = s; stands = e; kind = k; has = h }))
      where
        to : ArcOf ss c value P a → P a.statement
        to (inl h) = h.has
        to (inr (inl h)) = absurd (x (ap (λ (t : StatementParts). t.kind) (one_at ss a.statement s h.switch.it e h.switch.stands) ∙ h.switch.kind))
        to (inr (inr h)) = absurd (false≢true (sym (ap stays (ap (λ (t : StatementParts). t.kind) (one_at ss a.statement s h.leave.it e h.leave.stands) ∙ h.leave.kind)) ∙ k))

-- what is known of marked statements alone
pub side_more : (ss : List StatementParts) (P Q : ℕ → Type 0) (value : Bool) (a : Arc) → ((n : ℕ) → P n → Q n) → IsSide ss P value a → IsSide ss Q value a
side_more ss P Q value a f h = (h.0, (h.1.0, h.1.1, f h.1.0.statement h.1.2))

-- of no ports one has it
pub no_port : (ss : List StatementParts) (Q : Arc → Type 0) (n : ℕ) → SomePort ss Q n 0 → ⊥
no_port ss Q n (p, b, f) = omega (arith, b.0, b.1)

-- nor of one more, if that has it not
pub no_next_port : (ss : List StatementParts) (Q : Arc → Type 0) (n k : ℕ) → (SomePort ss Q n k → ⊥) → (((a : Arc) → Leads ss n (k + 1) a → Q a) → ⊥) → SomePort ss Q n (k + 1) → ⊥
no_next_port ss Q n k before here (p, b, f) =
    elim (split p (k + 1) (omega (arith, b.1))) [
      | inl l ↦ before (p, (b.0, omega (arith, l)), f)
      | inr e ↦ here (subst (λ (i : ℕ). (a : Arc) → Leads ss n i a → Q a) e f)
    ]

pub fewer_ports : (ss : List StatementParts) (Q : Arc → Type 0) (n m k : ℕ) → m ≤ k → SomePort ss Q n m → SomePort ss Q n k
fewer_ports ss Q n m k l (p, b, f) = (p, (b.0, omega (arith, b.1, l)), f)

pub guards_within : (ss : List StatementParts) (c : ℕ) (value : Bool) (P : ℕ → Type 0) (n : ℕ) → StatementOf ss c value P n → n < length ss + 1
guards_within ss c value P n (inl h) = (let w = number_within ss n h.it h.stands in omega (arith, w.1))
guards_within ss c value P n (inr h) = (let w = number_within ss n h.back.it h.back.stands in omega (arith, w.1))

inside : (k : Kind) → (k ≡ Begin → ⊥) → ((q : Parameter) → k ≡ Param q → ⊥) → (k ≡ Back → ⊥) → comes_from_outside k ≡ false
inside Begin x z y = absurd (x refl)
inside (Param q) x z y = absurd (z q refl)
inside Back x z y = absurd (y refl)
inside k x z y = refl

-- a statement that takes values has the guard by its ports
pub by_ports : (ss : List StatementParts) (c : ℕ) (value : Bool) (P : ℕ → Type 0) (n : ℕ) (s : StatementParts) → statement_at ss n ≡ Some s → (s.kind ≡ Begin → ⊥) → ((q : Parameter) → s.kind ≡ Param q → ⊥) → (s.kind ≡ Back → ⊥) → (b : Bool) → (IsTrue b ↔ SomePort ss (ArcOf ss c value P) n (ports_of s.kind)) → IsTrue b ↔ StatementOf ss c value P n
by_ports ss c value P n s e x z y b h = (to, back)
  where
    to : IsTrue b → StatementOf ss c value P n
    to t = (let p = h.0 t in inl (record { it = s; stands = e; takes = inside s.kind x z y; port = p.0; exists = p.1; all = p.2 }))

    back : StatementOf ss c value P n → IsTrue b
    back (inl a) = h.1 (a.port, subst (λ (t : StatementParts). IsBetween 1 a.port (ports_of t.kind)) (sym (one_at ss n s a.it e a.stands)) a.exists, a.all)
    back (inr a) = absurd (y (ap (λ (t : StatementParts). t.kind) (one_at ss n s a.back.it e a.back.stands) ∙ a.back.kind))
