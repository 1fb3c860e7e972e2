use Rattle.std.proofs.Common.{◌≤◌, length}
use Rattle.u_sets.proofs.Turned.{AreBelow}
use Rattle.u_sets.proofs.falling.place_of.Given as goal

abbrev pub invariant-loop-place : goal.invariant-loop-place
invariant-loop-place g l = record {
  within : l.place ≤ length l.list;
  below : AreBelow g.T.Ord.cmp g.met.T.Ord.total l.list l.place l.item;
}

abbrev pub decreases-loop-place : goal.decreases-loop-place
decreases-loop-place g l = l.place
