use Rattle.std.proofs.Common.{length}
use Rattle.u_compile.specs.declared.lowering.Start.{Start}
use Rattle.u_compile.specs.Scoped.{IsOf}
use Rattle.u_compile.specs.Loops.{HasVariable}
use Rattle.u_compile.proofs.turns.is_start.Given as goal

abbrev pub invariant-loop-start : goal.invariant-loop-start
invariant-loop-start l = record {
  those : (s : Start) → IsOf l.rest s → IsOf l.starts s;
  others : HasVariable l.starts l.name → HasVariable l.rest l.name;
}

abbrev pub decreases-loop-start : goal.decreases-loop-start
decreases-loop-start l = length l.rest
