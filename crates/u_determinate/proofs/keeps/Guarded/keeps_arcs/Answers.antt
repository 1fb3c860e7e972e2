use Rattle.std.proofs.Common.{sym}
use Rattle.u_determinate.proofs.Links.{number_within}
use Rattle.u_determinate.proofs.keeps.Guarded.keeps_arcs.Goals as goal

pub arcs_meet-requires-clause-within : goal.arcs_meet-requires-clause-within
arcs_meet-requires-clause-within c =
    (number_within c.args.self.now.flow.statements.now c.args.number c.in-Some.field-0.now (sym c.in-Some.ensures)).1

pub returns-in-Some : goal.returns-in-Some
returns-in-Some c =
    ((λ t s e. c.arcs_meet.ensures.0 t), λ f. c.arcs_meet.ensures.1 (f c.in-Some.field-0.now (sym c.in-Some.ensures)))
