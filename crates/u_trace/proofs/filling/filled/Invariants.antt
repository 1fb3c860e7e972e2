use Rattle.std.proofs.Common.{◌↔◌, ◌≤◌, ◌<◌, ℕ, IsTrue}
use Rattle.std.specs.Prelude.{Contains}
use Rattle.u_trace.specs.Ports.{has_port}
use Rattle.u_trace.specs.Waiting.{HasToken}
use Rattle.u_trace.proofs.filling.filled.Given as goal

abbrev pub invariant-loop-number : goal.invariant-loop-number
invariant-loop-number l = (k : ℕ) → IsTrue (has_port l.ports k) ↔ ((1 ≤ k) × (k < l.number) × HasToken (Contains l.history) l.activity k)
