use Rattle.std.proofs.Common.{◌≡◌, ◌+◌, ◌≤◌, length}
use Rattle.u_compile.specs.Graphs.{destinations}
use Rattle.u_compile.proofs.fanning.count_from.Given as goal

abbrev pub invariant-loop-link : goal.invariant-loop-link
invariant-loop-link l = (l.count + length (destinations l.output l.rest) ≡ length (destinations l.output l.links)) × (l.count + length l.rest ≤ length l.links)

abbrev pub decreases-loop-link : goal.decreases-loop-link
decreases-loop-link l = length l.rest
