use Rattle.std.proofs.Common.{length}
use Rattle.u_pictures.proofs.sharing.+same_list.Given as goal

abbrev pub decreases-same_list : goal.decreases-same_list
decreases-same_list l = length l.left.now
