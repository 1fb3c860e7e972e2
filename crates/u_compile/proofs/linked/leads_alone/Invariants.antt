use Rattle.std.proofs.Common.{length}
use Rattle.u_compile.specs.Placed.{IsAlone}
use Rattle.u_compile.proofs.linked.leads_alone.Given as goal

abbrev pub invariant-loop-link : goal.invariant-loop-link
invariant-loop-link l = IsAlone l.rest l.from l.to → IsAlone l.links l.from l.to

abbrev pub decreases-loop-link : goal.decreases-loop-link
decreases-loop-link l = length l.rest
