use Rattle.u_determinate.specs.Guards.{StatementOf}
use Rattle.u_determinate.specs.Flow.{Marked}
use Rattle.u_determinate.proofs.sides.Side.mark_all.Given as goal

abbrev pub invariant-loop-number : goal.invariant-loop-number
invariant-loop-number l = Marked (StatementOf l.self.flow.statements.now l.self.control l.self.value) l.initial.marks l.marks
