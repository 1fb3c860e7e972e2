use Rattle.std.proofs.Common.{length}
use Rattle.u_compile.specs.declared.place.Guard.{Guard}
use Rattle.u_compile.specs.Scoped.{IsOf}
use Rattle.u_compile.proofs.place.opposite.Given as goal

abbrev pub invariant-loop-first : goal.invariant-loop-first
invariant-loop-first l = (c : Guard) → IsOf l.rest c → IsOf l.guards c

abbrev pub decreases-loop-first : goal.decreases-loop-first
decreases-loop-first l = length l.rest
