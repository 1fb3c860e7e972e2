use Rattle.u_determinate.specs.Tables.{CallsBefore}
use Rattle.u_determinate.proofs.calls.add_calls.Given as goal

abbrev pub invariant-loop-statement : goal.invariant-loop-statement
invariant-loop-statement l = CallsBefore l.statements l.statement-index l.table
