use Rattle.std.proofs.Common.{◌≡◌, ◌++◌, map, take}
use Rattle.u_sets.specs.Pairs.{pairs_from}
use Rattle.u_sets.specs.Columns.{deref_value}
use Rattle.u_sets.proofs.column.push_values.Given as goal

abbrev pub invariant-loop-value : goal.invariant-loop-value
invariant-loop-value g l = map deref_value l.list.items ≡ map deref_value l.fn.list.items ++ pairs_from l.number (take l.value-index l.values)
