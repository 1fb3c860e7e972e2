use Rattle.std.proofs.Common.{take, Contains}
use Rattle.std.specs.List.{AllZip}
use Rattle.u_history.specs.Outcomes.{lent}
use Rattle.u_history.specs.Clashes.{HasValuesOf}
use Rattle.u_history.proofs.clash.all_with_values.Given as goal

abbrev pub invariant-loop-port : goal.invariant-loop-port
invariant-loop-port l = AllZip (HasValuesOf (Contains (lent l.entries))) (take l.port-index l.ports) l.list.items
