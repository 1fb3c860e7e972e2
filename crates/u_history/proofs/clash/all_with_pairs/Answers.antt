use Rattle.std.proofs.Common.{Contains}
use Rattle.u_history.specs.Outcomes.{lent}
use Rattle.u_history.specs.Clashes.{HasPairsOf}
use Rattle.u_history.proofs.Grouped.{row_more}
use Rattle.u_history.proofs.clash.all_with_pairs.Goals as goal

pub loop-cell-preserved : goal.loop-cell-preserved
loop-cell-preserved c =
    rw c.in_ok-push.ensures.items (row_more (HasPairsOf (Contains (lent c.args.entries.now))) c.args.cells.now c.loop-cell.list.items c.loop-cell.cell-index c.cell-item.result c.in_ok-with_pairs.field-0 c.loop-cell-test.true c.cell-item.is c.loop-cell.invariant c.in_ok-with_pairs.ensures)
