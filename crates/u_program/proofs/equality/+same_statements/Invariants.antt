use Rattle.std.proofs.Common.{length}
use Rattle.u_program.proofs.equality.+same_statements.Given as goal

abbrev pub decreases-same_statements : goal.decreases-same_statements
decreases-same_statements l = length l.left.now
