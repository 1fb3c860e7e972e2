use Rattle.std.proofs.Common.{◌≡◌, ℕ, ◌+◌, ◌-◌, refl, sym, ap, ◌∙◌, arith, get_or, Some, true}
use Rattle.std.specs.Prelude.{slice_get}
use Rattle.std.proofs.lemmas.Option.{slice_get_read}
use Rattle.u_check.specs.Rules.{statement_at}
use Rattle.u_determinate.specs.declared.sources.Sources.TheVariants.{Nothing}
use Rattle.u_determinate.specs.Tables.{only_source, is_switch_of}
use Rattle.u_determinate.proofs.GuardTables.{no_input, other_side, no_switch, no_control, guarded, from_within, same_side, not_same_side}
use Rattle.u_determinate.proofs.guards.guard_of.Goals as goal
use Rattle.u_determinate.proofs.guards.guard_of.Goals.{then-input-on_false-via-then-input-on_false, then-input-on_false-via-else-input-on_false+then-not-is_switch_of}

pub returns-in_default : goal.returns-in_default
returns-in_default c =
    let ss = c.args.statements.now in
    let i = c.args.place in
    let s = c.index-statements-place.result in
    let at : slice_get ss i ≡ Some s = slice_get_read ss _ i s refl (omega arith) c.index-statements-place.is in
    let back : i + 1 - 1 ≡ i = omega arith in
    let w = c.requires.inputs in
    let long = w.as_long in
    let is : c.only_source_at.result ≡ only_source (get_or c.args.inputs.now i Nothing) = c.only_source_at.ensures (omega arith) (omega (arith, long)) ∙ ap (λ (k : ℕ). only_source (get_or c.args.inputs.now k Nothing)) back in
    no_input ss i s at c.args.inputs.now c.args.controls.now c.requires.inputs c.requires.controls c.args.on_false (sym is ∙ c.in_default.is)

pub returns-then-input-on_false : goal.returns-then-input-on_false
returns-then-input-on_false c =
    let ss = c.args.statements.now in
    let i = c.args.place in
    let s = c.index-statements-place.result in
    let at : slice_get ss i ≡ Some s = slice_get_read ss _ i s refl (omega arith) c.index-statements-place.is in
    let back : i + 1 - 1 ≡ i = omega arith in
    let w = c.requires.inputs in
    let long = w.as_long in
    let is : c.only_source_at.result ≡ only_source (get_or c.args.inputs.now i Nothing) = c.only_source_at.ensures (omega arith) (omega (arith, long)) ∙ ap (λ (k : ℕ). only_source (get_or c.args.inputs.now k Nothing)) back in
    let a = c.in-Some.input in
    let input : only_source (get_or c.args.inputs.now i Nothing) ≡ Some a = sym is ∙ c.in-Some.is in
    elim c.then-input-on_false.branch [
      | then-input-on_false-via-then-input-on_false w ↦ other_side ss i s at c.args.inputs.now c.args.controls.now c.requires.inputs c.requires.controls c.args.on_false a input (not_same_side a.on_false c.args.on_false w.if-input-on_false.true)
      | then-input-on_false-via-else-input-on_false+then-not-is_switch_of w ↦
          no_switch ss i s at c.args.inputs.now c.args.controls.now c.requires.inputs c.requires.controls c.args.on_false a input (ap (λ (r : ℕ). is_switch_of (statement_at ss a.statement) r) (sym c.region-region.ensures) ∙ sym w.is_switch_of.ensures ∙ w.if-not-is_switch_of.true)
    ]

pub returns-in_default-only_source_at : goal.returns-in_default-only_source_at
returns-in_default-only_source_at c =
    let ss = c.args.statements.now in
    let i = c.args.place in
    let s = c.index-statements-place.result in
    let at : slice_get ss i ≡ Some s = slice_get_read ss _ i s refl (omega arith) c.index-statements-place.is in
    let back : i + 1 - 1 ≡ i = omega arith in
    let w = c.requires.inputs in
    let long = w.as_long in
    let is : c.only_source_at.result ≡ only_source (get_or c.args.inputs.now i Nothing) = c.only_source_at.ensures (omega arith) (omega (arith, long)) ∙ ap (λ (k : ℕ). only_source (get_or c.args.inputs.now k Nothing)) back in
    let a = c.in-Some.input in
    let input : only_source (get_or c.args.inputs.now i Nothing) ≡ Some a = sym is ∙ c.in-Some.is in
    let within = from_within ss i s at c.args.inputs.now c.args.controls.now c.requires.inputs c.requires.controls c.args.on_false a input in
    let known = c.requires.controls in
    let count = known.as_long in
    let control : c.only_source_at-2.result ≡ only_source (get_or c.args.controls.now (a.statement - 1) Nothing) = c.only_source_at-2.ensures within.0 (omega (arith, within.1, count)) in
    no_control ss i s at c.args.inputs.now c.args.controls.now c.requires.inputs c.requires.controls c.args.on_false a input (sym control ∙ c.in_default-only_source_at.is)

pub returns : goal.returns
returns c =
    let ss = c.args.statements.now in
    let i = c.args.place in
    let s = c.index-statements-place.result in
    let at : slice_get ss i ≡ Some s = slice_get_read ss _ i s refl (omega arith) c.index-statements-place.is in
    let back : i + 1 - 1 ≡ i = omega arith in
    let w = c.requires.inputs in
    let long = w.as_long in
    let is : c.only_source_at.result ≡ only_source (get_or c.args.inputs.now i Nothing) = c.only_source_at.ensures (omega arith) (omega (arith, long)) ∙ ap (λ (k : ℕ). only_source (get_or c.args.inputs.now k Nothing)) back in
    let a = c.in-Some.input in
    let input : only_source (get_or c.args.inputs.now i Nothing) ≡ Some a = sym is ∙ c.in-Some.is in
    let within = from_within ss i s at c.args.inputs.now c.args.controls.now c.requires.inputs c.requires.controls c.args.on_false a input in
    let known = c.requires.controls in
    let count = known.as_long in
    let control : c.only_source_at-2.result ≡ only_source (get_or c.args.controls.now (a.statement - 1) Nothing) = c.only_source_at-2.ensures within.0 (omega (arith, within.1, count)) in
    let switch : is_switch_of (statement_at ss a.statement) s.region ≡ true = ap (λ (r : ℕ). is_switch_of (statement_at ss a.statement) r) (sym c.region-region.ensures) ∙ sym c.is_switch_of.ensures ∙ c.if-not-is_switch_of.false in
    guarded ss i s at c.args.inputs.now c.args.controls.now c.requires.inputs c.requires.controls c.args.on_false a input c.in-Some-only_source_at.control (same_side a.on_false c.args.on_false c.if-input-on_false.false) switch (sym control ∙ c.in-Some-only_source_at.is)
