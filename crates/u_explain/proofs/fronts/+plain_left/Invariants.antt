use Rattle.std.proofs.Common.{length}
use Rattle.u_explain.proofs.fronts.+plain_left.Given as goal

abbrev pub decreases-plain_left : goal.decreases-plain_left
decreases-plain_left l = length l.kinds.now
