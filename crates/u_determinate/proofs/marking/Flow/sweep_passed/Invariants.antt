use Rattle.u_determinate.specs.Guards.{PassedOn}
use Rattle.u_determinate.proofs.Sweeps.{SweptTo}
use Rattle.u_determinate.proofs.marking.Flow.sweep_passed.Given as goal

abbrev pub invariant-loop-number : goal.invariant-loop-number
invariant-loop-number l = SweptTo (PassedOn l.self.statements.now l.control) l.number l.initial.passed l.passed l.new
