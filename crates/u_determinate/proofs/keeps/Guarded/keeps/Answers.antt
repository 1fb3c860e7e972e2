use Rattle.std.proofs.Common.{sym, subst}
use Rattle.std.specs.Prelude.{◌↔◌, IsTrue}
use Rattle.u_determinate.specs.declared.verdict.Meeting.{Meeting}
use Rattle.u_determinate.specs.Meetings.{Asks}
use Rattle.u_determinate.proofs.keeps.Guarded.keeps.Goals as goal

pub returns-in-Arcs : goal.returns-in-Arcs
returns-in-Arcs c =
    subst (λ (m : Meeting). IsTrue c.keeps_arcs.result ↔ Asks m c.args.self.now.flow.statements.now c.args.number) (sym c.in-Arcs.is) c.keeps_arcs.ensures

pub returns-in-Ends : goal.returns-in-Ends
returns-in-Ends c =
    subst (λ (m : Meeting). IsTrue c.keeps_ends.result ↔ Asks m c.args.self.now.flow.statements.now c.args.number) (sym c.in-Ends.is) c.keeps_ends.ensures

pub returns-in-Calls : goal.returns-in-Calls
returns-in-Calls c =
    subst (λ (m : Meeting). IsTrue c.keeps_calls.result ↔ Asks m c.args.self.now.flow.statements.now c.args.number) (sym c.in-Calls.is) c.keeps_calls.ensures

pub returns-in-Turns : goal.returns-in-Turns
returns-in-Turns c =
    subst (λ (m : Meeting). IsTrue c.keeps_turns.result ↔ Asks m c.args.self.now.flow.statements.now c.args.number) (sym c.in-Turns.is) c.keeps_turns.ensures
