use Rattle.std.proofs.Common.{◌+◌, arith, refl, sym, ◌∙◌}
use Rattle.std.proofs.lemmas.Bool.{false≢true}
use Rattle.u_determinate.specs.Guards.{ArcOf}
use Rattle.u_determinate.specs.Flow.{IsMarked}
use Rattle.u_determinate.proofs.SidesLaws.{no_port, no_next_port, fewer_ports}
use Rattle.u_determinate.proofs.sides.Side.some_port_has.Goals as goal

pub loop-place-init : goal.loop-place-init
loop-place-init c =
    let self = c.args.self.now in
    no_port self.flow.statements.now (ArcOf self.flow.statements.now self.control self.value (IsMarked c.args.marks.now)) c.args.number

pub loop-place-preserved : goal.loop-place-preserved
loop-place-preserved c =
    let self = c.args.self.now in
    no_next_port self.flow.statements.now (ArcOf self.flow.statements.now self.control self.value (IsMarked c.args.marks.now)) c.args.number c.loop-place.place c.loop-place.invariant
    (λ f. false≢true (sym c.if-port_has.false ∙ c.port_has.ensures.1 f))

pub returns : goal.returns
returns c =
    let self = c.args.self.now in
    ((λ t. absurd (false≢true t)), λ s. absurd (c.loop-place.invariant (fewer_ports self.flow.statements.now (ArcOf self.flow.statements.now self.control self.value (IsMarked c.args.marks.now)) c.args.number _ c.loop-place.place (omega arith) s)))

pub returns-then-port_has : goal.returns-then-port_has
returns-then-port_has c =
    ((λ t. (c.loop-place.place + 1, (omega arith, omega arith), c.port_has.ensures.0 c.if-port_has.true)), λ s. refl)
