use Rattle.std.proofs.Common.{◌≡◌, ◌++◌, take}
use Rattle.u_history.specs.declared.clash.PortClash.{PortClash}
use Rattle.u_history.specs.Clashes.{port_values}
use Rattle.u_history.specs.Report.{texts, port_lines}
use Rattle.u_history.proofs.report.put_ports.Given as goal

abbrev pub invariant-loop-clash : goal.invariant-loop-clash
invariant-loop-clash l = l.out.items ≡ l.initial.out.items ++ texts (λ (k : PortClash). port_lines (port_values k)) (take l.clash-index l.clashes)
