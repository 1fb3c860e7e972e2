use Rattle.u_determinate.specs.Guards.{StatementOf}
use Rattle.u_determinate.proofs.Sweeps.{SweptTo}
use Rattle.u_determinate.proofs.sides.Side.sweep.Given as goal

abbrev pub invariant-loop-number : goal.invariant-loop-number
invariant-loop-number l = SweptTo (StatementOf l.self.flow.statements.now l.self.control l.self.value) l.number l.initial.marks l.marks l.new
