use Rattle.std.proofs.Common.{◌≡◌, ◌++◌, ◌-◌}
use Rattle.u_trace.specs.Text.{ports_from}
use Rattle.u_trace.proofs.writing.push_ports.Given as goal

abbrev pub invariant-loop-port : goal.invariant-loop-port
invariant-loop-port l = l.out.items ≡ l.initial.out.items ++ ports_from l.ports 1 (l.port - 1)
