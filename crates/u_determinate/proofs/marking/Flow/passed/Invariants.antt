use Rattle.std.proofs.Common.{◌+◌, length}
use Rattle.std.specs.Prelude.{if◌then◌else◌}
use Rattle.u_determinate.specs.Guards.{PassedOn}
use Rattle.u_determinate.specs.Flow.{unmarked}
use Rattle.u_determinate.proofs.Sweeps.{Settling}
use Rattle.u_determinate.proofs.marking.Flow.passed.Given as goal

abbrev pub invariant-loop-new : goal.invariant-loop-new
invariant-loop-new l = Settling (PassedOn l.self.statements.now l.control) (length l.self.statements.now + 1) l.passed.items l.new

abbrev pub decreases-loop-new : goal.decreases-loop-new
decreases-loop-new l = unmarked l.passed.items + (if l.new then 1 else 0)
