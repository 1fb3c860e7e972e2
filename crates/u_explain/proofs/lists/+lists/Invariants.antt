use Rattle.std.proofs.Common.{length, ◌*◌, ◌+◌}
use Rattle.u_explain.specs.Left.{IsLeft}
use Rattle.u_explain.proofs.ListLaws.{SoFar}
use Rattle.u_explain.proofs.lists.+lists.Given as goal

abbrev pub decreases-destination_left : goal.decreases-destination_left
decreases-destination_left l = 2 * length l.bytes.now

abbrev pub decreases-end_left : goal.decreases-end_left
decreases-end_left l = 2 * length l.bytes.now

abbrev pub decreases-list_left : goal.decreases-list_left
decreases-list_left l = 2 * length l.bytes.now + 1

abbrev pub invariant-list_left-loop-rank : goal.invariant-list_left-loop-rank
invariant-list_left-loop-rank l = IsLeft (SoFar l.version l.slashed l.below l.room l.rank) l.bytes l.best
