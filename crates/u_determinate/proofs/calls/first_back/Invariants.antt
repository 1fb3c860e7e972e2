use Rattle.std.proofs.Common.{ℕ, ◌+◌, ◌<◌}
use Rattle.u_determinate.specs.Breaches.{ReturnsOneCall}
use Rattle.u_determinate.proofs.calls.first_back.Given as goal

abbrev pub invariant-loop-place : goal.invariant-loop-place
invariant-loop-place l = (m : ℕ) → m < l.place + 1 → ReturnsOneCall l.statements m
