use Rattle.std.proofs.Common.{◌∙◌}
use Rattle.u_trace.proofs.NumberLaws.{number_is, number_none}
use Rattle.u_trace.proofs.table.Givers.number_for.Goals as goal

pub returns-in-Some : goal.returns-in-Some
returns-in-Some c = number_is c.args.self.now.names c.args.activity.now c.in-Some.number c.args.self.now.one_number c.in-Some.ensures.number

pub returns-in-None : goal.returns-in-None
returns-in-None c = c.len.ensures ∙ number_none c.args.self.now.names c.args.activity.now c.in-None.ensures.none
