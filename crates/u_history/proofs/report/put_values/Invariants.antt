use Rattle.std.proofs.Common.{◌≡◌, ◌++◌, take}
use Rattle.u_history.specs.Report.{texts, port_line}
use Rattle.u_history.proofs.report.put_values.Given as goal

abbrev pub invariant-loop-value : goal.invariant-loop-value
invariant-loop-value l = l.out.items ≡ l.initial.out.items ++ texts (port_line l.activity l.port) (take l.value-index l.values)
