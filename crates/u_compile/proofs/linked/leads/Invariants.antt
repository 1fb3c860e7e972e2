use Rattle.std.proofs.Common.{length}
use Rattle.u_compile.specs.Graphs.{link}
use Rattle.u_compile.specs.Scoped.{IsOf}
use Rattle.u_compile.proofs.linked.leads.Given as goal

abbrev pub invariant-loop-link : goal.invariant-loop-link
invariant-loop-link l = IsOf l.rest (link l.from l.to.statement l.to.port) → IsOf l.links (link l.from l.to.statement l.to.port)

abbrev pub decreases-loop-link : goal.decreases-loop-link
decreases-loop-link l = length l.rest
