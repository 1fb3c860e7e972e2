use Rattle.std.proofs.Common.{length}
use Rattle.u_base.proofs.numbers.+after_all.Given as goal

abbrev pub decreases-after_all : goal.decreases-after_all
decreases-after_all l = length l.wanted.now
