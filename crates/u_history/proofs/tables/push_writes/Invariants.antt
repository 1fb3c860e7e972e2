use Rattle.std.proofs.Common.{◌≡◌, ◌++◌, map, take}
use Rattle.u_names.specs.CellPairs.{deref_at_cell}
use Rattle.u_history.specs.Tables.{write_entry}
use Rattle.u_history.proofs.tables.push_writes.Given as goal

abbrev pub invariant-loop-pair : goal.invariant-loop-pair
invariant-loop-pair l = l.list.items ≡ l.fn.list.items ++ map write_entry (map deref_at_cell (take l.pair-index l.pairs))
