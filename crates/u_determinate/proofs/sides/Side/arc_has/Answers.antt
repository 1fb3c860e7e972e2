use Rattle.std.proofs.Common.{sym, ◌∙◌}
use Rattle.u_determinate.specs.Flow.{arc_of, IsMarked}
use Rattle.u_determinate.proofs.Links.{number_within}
use Rattle.u_determinate.proofs.SidesLaws.{arc_leave}
use Rattle.u_determinate.proofs.sides.Side.arc_has.Goals as goal

pub all_behind-requires-clause-within : goal.all_behind-requires-clause-within
all_behind-requires-clause-within c =
    (number_within c.args.self.now.flow.statements.now c.args.link.now.statement c.in-Some.statement.now (sym c.in-Some.ensures)).1

pub switch_has-requires-clause-within : goal.switch_has-requires-clause-within
switch_has-requires-clause-within c =
    (number_within c.args.self.now.flow.statements.now c.args.link.now.statement c.in-Some.statement.now (sym c.in-Some.ensures)).1

pub returns-in-Leave : goal.returns-in-Leave
returns-in-Leave c =
    let k = arc_leave c.args.self.now.flow.statements.now c.args.self.now.control c.args.self.now.value (IsMarked c.args.marks.now) (arc_of c.args.link.now) c.in-Some.statement.now (sym c.in-Some.ensures) (sym c.kind.ensures ∙ c.in-Leave.is) in
    ((λ t. k.1 (c.all_behind.ensures.0 t)), λ a. c.all_behind.ensures.1 (k.0 a))
