use Rattle.std.proofs.Common.{length}
use Rattle.u_pictures.proofs.program_arcs.+push_arcs_from.Given as goal

abbrev pub decreases-push_arcs_from : goal.decreases-push_arcs_from
decreases-push_arcs_from l = length l.statements.now
