use Rattle.u_determinate.proofs.Marks.{marks_more}
use Rattle.u_determinate.proofs.sides.all_marks.Goals as goal

pub loop-control-preserved : goal.loop-control-preserved
loop-control-preserved c =
    rw c.in_ok-push.ensures.items (marks_more c.args.flow.statements.now c.loop-control.control c.loop-control.all.items _ c.loop-control.invariant c.in_ok-guards.ensures)
