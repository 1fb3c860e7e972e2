use Rattle.std.proofs.Common.{◌-◌}
use Rattle.u_name.proofs.WordByWord.{IsLeftTo}
use Rattle.u_name.proofs.path.compare_from.Given as goal

abbrev pub invariant-loop-place : goal.invariant-loop-place
invariant-loop-place l = IsLeftTo l.left l.right l.fn.from l.place

abbrev pub decreases-loop-place : goal.decreases-loop-place
decreases-loop-place l = l.both - l.place
