use Rattle.std.proofs.Common.{take, Contains}
use Rattle.std.specs.List.{AllZip}
use Rattle.u_history.specs.Outcomes.{lent}
use Rattle.u_history.specs.Clashes.{HasPairsOf}
use Rattle.u_history.proofs.clash.all_with_pairs.Given as goal

abbrev pub invariant-loop-cell : goal.invariant-loop-cell
invariant-loop-cell l = AllZip (HasPairsOf (Contains (lent l.entries))) (take l.cell-index l.cells) l.list.items
