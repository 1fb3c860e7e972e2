use Rattle.std.proofs.Common.{length}
use Rattle.u_determinate.specs.Tables.{PossibleBefore}
use Rattle.u_determinate.proofs.possible.mark_all.Given as goal

abbrev pub invariant-loop-statement : goal.invariant-loop-statement
invariant-loop-statement l = PossibleBefore l.statements (length l.fn.table) l.statement-index l.table
