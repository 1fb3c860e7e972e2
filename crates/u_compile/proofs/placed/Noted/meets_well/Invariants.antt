use Rattle.std.proofs.Common.{length}
use Rattle.u_compile.specs.Placed.{MeetsWell}
use Rattle.u_compile.proofs.placed.Noted.meets_well.Given as goal

abbrev pub invariant-loop-link : goal.invariant-loop-link
invariant-loop-link l = MeetsWell l.self l.output l.to l.rest → MeetsWell l.self l.output l.to l.self.graph.links

abbrev pub decreases-loop-link : goal.decreases-loop-link
decreases-loop-link l = length l.rest
