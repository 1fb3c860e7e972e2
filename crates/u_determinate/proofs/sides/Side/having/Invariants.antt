use Rattle.std.proofs.Common.{◌+◌, length}
use Rattle.std.specs.Prelude.{if◌then◌else◌}
use Rattle.u_determinate.specs.Guards.{StatementOf}
use Rattle.u_determinate.specs.Flow.{unmarked}
use Rattle.u_determinate.proofs.Sweeps.{Settling}
use Rattle.u_determinate.proofs.sides.Side.having.Given as goal

abbrev pub invariant-loop-new : goal.invariant-loop-new
invariant-loop-new l = Settling (StatementOf l.self.flow.statements.now l.self.control l.self.value) (length l.self.flow.statements.now + 1) l.marks.items l.new

abbrev pub decreases-loop-new : goal.decreases-loop-new
decreases-loop-new l = unmarked l.marks.items + (if l.new then 1 else 0)
