use Rattle.std.proofs.Common.{length}
use Rattle.u_program.proofs.equality.+same_destinations.Given as goal

abbrev pub decreases-same_destinations : goal.decreases-same_destinations
decreases-same_destinations l = length l.left.now
