use Rattle.std.proofs.Common.{◌≡◌, ◌++◌, length}
use Rattle.u_compile.specs.Graphs.{destinations}
use Rattle.u_compile.proofs.writing.destinations.Given as goal

abbrev pub invariant-loop-link : goal.invariant-loop-link
invariant-loop-link l = l.found.items ++ destinations l.output l.rest ≡ destinations l.output l.links

abbrev pub decreases-loop-link : goal.decreases-loop-link
decreases-loop-link l = length l.rest
