use Rattle.std.proofs.Common.{sym, ◌∙◌}
use Rattle.u_determinate.proofs.Opposed.{next_of}
use Rattle.u_determinate.proofs.keeps.Guarded.keeps_turns.Goals as goal

pub returns-in-Next : goal.returns-in-Next
returns-in-Next c =
    next_of c.args.self.now.flow.statements.now c.args.number c.in-Some.next.now (sym c.in-Some.ensures) (sym c.kind.ensures ∙ c.in-Next.is) c.region.result c.region.ensures c.lasts_exclude.result c.lasts_exclude.ensures
