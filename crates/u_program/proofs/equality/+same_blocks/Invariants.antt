use Rattle.std.proofs.Common.{length}
use Rattle.u_program.proofs.equality.+same_blocks.Given as goal

abbrev pub decreases-same_blocks : goal.decreases-same_blocks
decreases-same_blocks l = length l.left.now
