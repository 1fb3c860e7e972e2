use Rattle.std.proofs.Common.{◌≡◌, ℕ, ◌+◌, ◌≤◌, refl, sym, ap, ◌∙◌, arith, get_or, Some, below_more, true, false}
use Rattle.std.specs.Prelude.{slice_get}
use Rattle.std.proofs.lemmas.Option.{slice_get_read}
use Rattle.u_program.specs.declared.program.Kind.{Kind}
use Rattle.u_check.specs.Kinds.{ports_of, comes_from_outside}
use Rattle.u_determinate.specs.declared.sources.Sources.TheVariants.{Nothing}
use Rattle.u_determinate.specs.Tables.{has_one_source, PortHasOneSource, PortIsFed}
use Rattle.u_determinate.proofs.PortFacts.{fed, not_fed}
use Rattle.u_determinate.proofs.Tests.{each_statement, no_statement}
use Rattle.u_determinate.proofs.ports.first_at.Goals as goal

pub loop-place-init : goal.loop-place-init
loop-place-init c =
    no_statement c.args.statements.now (λ m s. comes_from_outside s.kind ≡ false → c.args.port ≤ ports_of s.kind → PortHasOneSource c.args.statements.now m c.args.port)

pub loop-place-preserved : goal.loop-place-preserved
loop-place-preserved c =
    let ss = c.args.statements.now in
    let i = c.loop-place.place in
    let s = c.index-statements-place.result in
    let at : slice_get ss i ≡ Some s = slice_get_read ss _ i s refl (omega arith) c.index-statements-place.is in
    let e : has_one_source s.kind c.args.port (get_or c.args.sources.now i Nothing) ≡ true = ap (λ (k : Kind). has_one_source k c.args.port (get_or c.args.sources.now i Nothing)) (sym c.kind.ensures) ∙ sym c.has_one_source.ensures ∙ c.if-not-has_one_source.false in
    below_more (λ (m : ℕ). PortIsFed ss c.args.port m) (i + 1) c.loop-place.invariant (fed ss i s at c.args.port c.args.sources.now c.requires e)

pub returns : goal.returns
returns c =
    each_statement c.args.statements.now (λ m s. comes_from_outside s.kind ≡ false → c.args.port ≤ ports_of s.kind → PortHasOneSource c.args.statements.now m c.args.port) c.loop-place.place (omega arith) c.loop-place.invariant

pub returns-then-not-has_one_source : goal.returns-then-not-has_one_source
returns-then-not-has_one_source c =
    let ss = c.args.statements.now in
    let i = c.loop-place.place in
    let s = c.index-statements-place.result in
    let at : slice_get ss i ≡ Some s = slice_get_read ss _ i s refl (omega arith) c.index-statements-place.is in
    let e : has_one_source s.kind c.args.port (get_or c.args.sources.now i Nothing) ≡ false = ap (λ (k : Kind). has_one_source k c.args.port (get_or c.args.sources.now i Nothing)) (sym c.kind.ensures) ∙ sym c.has_one_source.ensures ∙ c.if-not-has_one_source.true in
    (not_fed ss i s at c.args.port c.args.sources.now c.requires e, c.loop-place.invariant)
