use Rattle.std.proofs.Common.{◌≡◌, map, take}
use Rattle.std.specs.Map.Iter.{deref_pair}
use Rattle.u_names.specs.CellPairs.{pairs_at, deref_at_cell}
use Rattle.u_names.proofs.cells.with_cells.Given as goal

abbrev pub invariant-loop-pair : goal.invariant-loop-pair
invariant-loop-pair g l = map deref_at_cell l.list.items ≡ pairs_at l.structures (map deref_pair (take l.pair-index l.pairs))
