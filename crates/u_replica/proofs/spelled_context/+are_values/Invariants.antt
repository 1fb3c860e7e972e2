use Rattle.std.proofs.Common.{length}
use Rattle.u_replica.proofs.spelled_context.+are_values.Given as goal

abbrev pub decreases-are_values : goal.decreases-are_values
decreases-are_values l = length l.values.now
