use Rattle.u_determinate.specs.Tables.{ArcsBefore, list_number}
use Rattle.std.proofs.Common.{◌+◌}
use Rattle.u_determinate.proofs.sources.add_list.Given as goal

abbrev pub invariant-loop-destination : goal.invariant-loop-destination
invariant-loop-destination l = ArcsBefore l.statements l.port (list_number (l.place + 1) l.on_false) l.destination-index l.table
