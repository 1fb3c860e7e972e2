use Rattle.std.proofs.Common.{◌≡◌, ℕ, ◌+◌, refl, sym, ap, ◌∙◌, arith, get_or, Some, below_more, true, false, ◌||◌, not}
use Rattle.std.specs.Prelude.{slice_get}
use Rattle.std.proofs.lemmas.Option.{slice_get_read}
use Rattle.u_program.specs.declared.program.Kind.{Kind}
use Rattle.u_program.specs.declared.program.Kind.TheVariants.{Back}
use Rattle.u_check.specs.Kinds.{is_back}
use Rattle.u_determinate.specs.declared.calls.Calls.TheVariants.{Nothing}
use Rattle.u_determinate.specs.Arcs.{IsAppliedOnce}
use Rattle.u_determinate.specs.Breaches.{ReturnsOneCall}
use Rattle.u_determinate.specs.Tables.{is_one_call}
use Rattle.u_determinate.proofs.CallTables as tables
use Rattle.u_determinate.proofs.Tests.{each_statement, no_statement}
use Rattle.u_determinate.proofs.calls.first_back.Goals as goal

pub loop-place-init : goal.loop-place-init
loop-place-init c = no_statement c.args.statements.now (λ m s. s.kind ≡ Back → IsAppliedOnce c.args.statements.now m)

pub loop-place-preserved : goal.loop-place-preserved
loop-place-preserved c =
    let ss = c.args.statements.now in
    let s = c.index-statements-place.result in
    let at : slice_get ss c.loop-place.place ≡ Some s = slice_get_read ss _ c.loop-place.place s refl (omega arith) c.index-statements-place.is in
    let e : (not (is_back s.kind) || is_one_call (get_or c.args.table.now c.loop-place.place Nothing)) ≡ true = ap (λ (k : Kind). not (is_back k) || is_one_call (get_or c.args.table.now c.loop-place.place Nothing)) (sym c.kind.ensures) ∙ sym c.returns_one_call.ensures ∙ c.if-not-returns_one_call.false in
    below_more (λ (m : ℕ). ReturnsOneCall ss m) (c.loop-place.place + 1) c.loop-place.invariant (tables.returns ss c.args.table.now c.requires c.loop-place.place s at e)

pub returns : goal.returns
returns c =
    each_statement c.args.statements.now (λ m s. s.kind ≡ Back → IsAppliedOnce c.args.statements.now m) c.loop-place.place (omega arith) c.loop-place.invariant

pub returns-then-not-returns_one_call : goal.returns-then-not-returns_one_call
returns-then-not-returns_one_call c =
    let ss = c.args.statements.now in
    let s = c.index-statements-place.result in
    let at : slice_get ss c.loop-place.place ≡ Some s = slice_get_read ss _ c.loop-place.place s refl (omega arith) c.index-statements-place.is in
    let e : (not (is_back s.kind) || is_one_call (get_or c.args.table.now c.loop-place.place Nothing)) ≡ false = ap (λ (k : Kind). not (is_back k) || is_one_call (get_or c.args.table.now c.loop-place.place Nothing)) (sym c.kind.ensures) ∙ sym c.returns_one_call.ensures ∙ c.if-not-returns_one_call.true in
    (tables.returns_not ss c.args.table.now c.requires c.loop-place.place s at e, c.loop-place.invariant)
