use Rattle.std.proofs.Common.{length}
use Rattle.u_compile.specs.Scoped.{AreGuards}
use Rattle.u_compile.proofs.place.are_guards.Given as goal

abbrev pub invariant-loop-first : goal.invariant-loop-first
invariant-loop-first l = AreGuards l.rest l.others → AreGuards l.guards l.others

abbrev pub decreases-loop-first : goal.decreases-loop-first
decreases-loop-first l = length l.rest
