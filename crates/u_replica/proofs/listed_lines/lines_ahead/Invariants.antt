use Rattle.std.proofs.Common.{length}
use Rattle.u_replica.specs.FiredLines.{AreLines}
use Rattle.u_replica.specs.ListedLines.{texts}
use Rattle.u_replica.proofs.listed_lines.lines_ahead.Given as goal

abbrev pub invariant-loop-line : goal.invariant-loop-line
invariant-loop-line l = AreLines l.bytes l.rest (texts l.lines.items)

abbrev pub decreases-loop-line : goal.decreases-loop-line
decreases-loop-line l = length l.rest
