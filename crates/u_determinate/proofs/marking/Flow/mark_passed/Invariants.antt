use Rattle.u_determinate.specs.Guards.{PassedOn}
use Rattle.u_determinate.specs.Flow.{Marked}
use Rattle.u_determinate.proofs.marking.Flow.mark_passed.Given as goal

abbrev pub invariant-loop-number : goal.invariant-loop-number
invariant-loop-number l = Marked (PassedOn l.self.statements.now l.control) l.initial.passed l.passed
