use Rattle.u_determinate.proofs.Links.{BehindFrom}
use Rattle.u_determinate.proofs.incoming.behind_statement.Given as goal

abbrev pub invariant-loop-i : goal.invariant-loop-i
invariant-loop-i l = BehindFrom l.statements l.number l.statement l.i l.all.items
