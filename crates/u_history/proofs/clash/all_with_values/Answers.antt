use Rattle.std.proofs.Common.{Contains}
use Rattle.u_history.specs.Outcomes.{lent}
use Rattle.u_history.specs.Clashes.{HasValuesOf}
use Rattle.u_history.proofs.Grouped.{row_more}
use Rattle.u_history.proofs.clash.all_with_values.Goals as goal

pub loop-port-preserved : goal.loop-port-preserved
loop-port-preserved c =
    rw c.in_ok-push.ensures.items (row_more (HasValuesOf (Contains (lent c.args.entries.now))) c.args.ports.now c.loop-port.list.items c.loop-port.port-index c.port-item.result c.in_ok-with_values.field-0 c.loop-port-test.true c.port-item.is c.loop-port.invariant c.in_ok-with_values.ensures)
