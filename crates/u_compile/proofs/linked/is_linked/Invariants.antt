use Rattle.std.proofs.Common.{length}
use Rattle.u_compile.specs.Placed.{IsLinked}
use Rattle.u_compile.proofs.linked.is_linked.Given as goal

abbrev pub invariant-loop-link : goal.invariant-loop-link
invariant-loop-link l = IsLinked l.rest l.statement l.port → IsLinked l.links l.statement l.port

abbrev pub decreases-loop-link : goal.decreases-loop-link
decreases-loop-link l = length l.rest
