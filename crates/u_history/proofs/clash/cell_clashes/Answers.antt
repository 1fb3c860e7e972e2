use Rattle.std.proofs.Common.{Contains, List, subst}
use Rattle.std.specs.List.{AllZip}
use Rattle.u_name.specs.Cell.{CellOf}
use Rattle.u_history.specs.Outcomes.{lent}
use Rattle.u_history.specs.Clashes.{HasPairsOf}
use Rattle.u_history.proofs.Clashing.{cells_grouped}
use Rattle.u_history.proofs.clash.cell_clashes.Goals as goal

pub returns : goal.returns
returns c =
    let H = Contains (lent c.args.entries.now) in
    cells_grouped H c.in_ok-cells.cells.items c.in_ok-list.list.items c.in_ok-cells.ensures
    (subst (λ (xs : List CellOf). AllZip (HasPairsOf H) xs c.in_ok-list.list.items) c.deref.ensures.value c.in_ok-list.ensures)
