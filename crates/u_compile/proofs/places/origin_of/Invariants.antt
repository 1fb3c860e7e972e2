use Rattle.std.proofs.Common.{◌≡◌, length}
use Rattle.u_compile.specs.Places.{origin_of}
use Rattle.u_compile.proofs.places.origin_of.Given as goal

abbrev pub invariant-loop-first : goal.invariant-loop-first
invariant-loop-first l = origin_of l.rest l.block l.statement ≡ origin_of l.origins l.block l.statement

abbrev pub decreases-loop-first : goal.decreases-loop-first
decreases-loop-first l = length l.rest
