use Rattle.std.proofs.Common.{ℕ, ◌+◌, ◌<◌}
use Rattle.u_determinate.specs.Breaches.{LoopIsTested}
use Rattle.u_determinate.proofs.loops.first_loop.Given as goal

abbrev pub invariant-loop-place : goal.invariant-loop-place
invariant-loop-place l = (m : ℕ) → m < l.place + 1 → LoopIsTested l.block m
