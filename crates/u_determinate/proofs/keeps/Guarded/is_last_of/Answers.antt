use Rattle.std.proofs.Common.{sym, ◌∙◌}
use Rattle.u_determinate.proofs.Opposed.{last_of}
use Rattle.u_determinate.proofs.keeps.Guarded.is_last_of.Goals as goal

pub returns-in-Last : goal.returns-in-Last
returns-in-Last c =
    last_of c.args.self.now.flow.statements.now c.args.region c.args.number c.in-Some.statement.now (sym c.in-Some.ensures) (sym c.kind.ensures ∙ c.in-Last.is) c.region.result c.region.ensures
