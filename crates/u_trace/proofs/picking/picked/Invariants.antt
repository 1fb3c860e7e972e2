use Rattle.u_trace.specs.Stories.{AreThoseAt, Below}
use Rattle.u_trace.specs.Marks.{IsMarked}
use Rattle.u_trace.proofs.picking.picked.Given as goal

abbrev pub invariant-loop-place : goal.invariant-loop-place
invariant-loop-place l = AreThoseAt l.log (Below l.place (IsMarked l.marks)) l.found.items
