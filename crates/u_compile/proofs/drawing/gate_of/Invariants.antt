use Rattle.std.proofs.Common.{ℕ, length}
use Rattle.u_compile.specs.declared.drawing.Gate.{Gate}
use Rattle.u_compile.specs.Drawings.{a_gate}
use Rattle.u_compile.specs.Scoped.{IsOf}
use Rattle.u_compile.proofs.drawing.gate_of.Given as goal

abbrev pub invariant-loop-gate : goal.invariant-loop-gate
invariant-loop-gate l = record {
  those : (g : Gate) → IsOf l.rest g → IsOf l.gates g;
  others : (s : ℕ) → IsOf l.gates (a_gate l.control l.value s) → IsOf l.rest (a_gate l.control l.value s);
}

abbrev pub decreases-loop-gate : goal.decreases-loop-gate
decreases-loop-gate l = length l.rest
