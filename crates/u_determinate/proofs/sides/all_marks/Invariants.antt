use Rattle.u_determinate.proofs.Marks.{MarksBelow}
use Rattle.u_determinate.proofs.sides.all_marks.Given as goal

abbrev pub invariant-loop-control : goal.invariant-loop-control
invariant-loop-control l = MarksBelow l.flow.statements.now l.control l.all.items
