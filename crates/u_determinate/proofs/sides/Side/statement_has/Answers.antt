use Rattle.std.proofs.Common.{◌∙◌, sym}
use Rattle.u_determinate.specs.Flow.{IsMarked}
use Rattle.u_determinate.proofs.Links.{number_within}
use Rattle.u_determinate.proofs.SidesLaws.{by_ports}
use Rattle.u_determinate.proofs.sides.Side.statement_has.Goals as goal

pub all_behind-requires-clause-within : goal.all_behind-requires-clause-within
all_behind-requires-clause-within c =
    (number_within c.args.self.now.flow.statements.now c.args.number c.in-Some.statement.now (sym c.in-Some.ensures)).1

pub some_port_has-requires : goal.some_port_has-requires
some_port_has-requires c = record {
  sources = c.requires.sources;
  passed = c.requires.passed;
  within = (number_within c.args.self.now.flow.statements.now c.args.number c.in-Some.statement.now (sym c.in-Some.ensures)).1;
}

pub returns-in_default : goal.returns-in_default
returns-in_default c =
    by_ports c.args.self.now.flow.statements.now c.args.self.now.control c.args.self.now.value (IsMarked c.args.marks.now) c.args.number c.in-Some.statement.now (sym c.in-Some.ensures)
    (λ e. c.in_default.not-Begin (c.kind.ensures ∙ e)) (λ q e. c.in_default.not-Param q (c.kind.ensures ∙ e)) (λ e. c.in_default.not-Back (c.kind.ensures ∙ e)) c.some_port_has.result (rw (← c.kind.ensures) c.some_port_has.ensures)
