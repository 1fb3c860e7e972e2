use Rattle.std.proofs.Common.{ℕ, ◌+◌, ◌<◌}
use Rattle.u_determinate.specs.Tables.{PortIsFed}
use Rattle.u_determinate.proofs.ports.first_at.Given as goal

abbrev pub invariant-loop-place : goal.invariant-loop-place
invariant-loop-place l = (m : ℕ) → m < l.place + 1 → PortIsFed l.statements l.port m
