use Rattle.std.proofs.Common.{length}
use Rattle.u_program.specs.Limits.{rank}
use Rattle.u_compile.specs.Graphs.{destinations, AllBefore}
use Rattle.u_compile.proofs.drafting.are_before.Given as goal

abbrev pub invariant-loop-link : goal.invariant-loop-link
invariant-loop-link l = AllBefore (rank l.to) (destinations l.from l.rest) → AllBefore (rank l.to) (destinations l.from l.links)

abbrev pub decreases-loop-link : goal.decreases-loop-link
decreases-loop-link l = length l.rest
