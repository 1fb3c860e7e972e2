use Rattle.std.proofs.Common.{◌+◌, ◌*◌}
use Rattle.u_determinate.specs.Tables.{ArcsBefore}
use Rattle.u_determinate.proofs.sources.add_all.Given as goal

abbrev pub invariant-loop-place : goal.invariant-loop-place
invariant-loop-place l = ArcsBefore l.statements l.port (2 * (l.place + 1)) 0 l.table
