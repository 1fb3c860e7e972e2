-- Sets of ports.
use Rattle.std.specs.Prelude.{ℕ, Bool, ◌==◌}
use Rattle.std.specs.Int.{bit_at}
use Rattle.u_trace.specs.declared.ports.Ports.{Ports}

-- whether the set has the port of that number
abbrev pub has_port : Ports → ℕ → Bool
has_port p k = bit_at p.bits k == 1
