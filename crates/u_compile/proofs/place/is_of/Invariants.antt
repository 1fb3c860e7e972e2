use Rattle.std.proofs.Common.{length}
use Rattle.u_compile.specs.Scoped.{IsOf}
use Rattle.u_compile.proofs.place.is_of.Given as goal

abbrev pub invariant-loop-first : goal.invariant-loop-first
invariant-loop-first l = IsOf l.rest l.guard → IsOf l.guards l.guard

abbrev pub decreases-loop-first : goal.decreases-loop-first
decreases-loop-first l = length l.rest
