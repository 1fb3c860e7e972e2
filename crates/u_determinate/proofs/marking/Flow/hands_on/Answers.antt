use Rattle.std.proofs.Common.{sym}
use Rattle.u_determinate.proofs.Links.{number_within}
use Rattle.u_determinate.proofs.marking.Flow.hands_on.Goals as goal

pub takes_marked-requires-clause-within : goal.takes_marked-requires-clause-within
takes_marked-requires-clause-within c =
    (number_within c.args.self.now.statements.now c.args.number c.in-Some.statement.now (sym c.in-Some.ensures)).1
