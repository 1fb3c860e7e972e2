use Rattle.std.proofs.Common.{length}
use Rattle.u_determinate.specs.Tables.{GuardsBefore}
use Rattle.u_determinate.proofs.guards.add_guards.Given as goal

abbrev pub invariant-loop-place : goal.invariant-loop-place
invariant-loop-place l = GuardsBefore l.statements (length l.fn.table) l.place l.table
