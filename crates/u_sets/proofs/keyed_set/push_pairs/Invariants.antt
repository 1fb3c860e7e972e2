use Rattle.std.proofs.Common.{◌≡◌, ◌++◌, map, take}
use Rattle.std.specs.Map.Iter.{deref_pair}
use Rattle.u_sets.specs.Pairs.{pairs_from}
use Rattle.u_sets.proofs.keyed_set.push_pairs.Given as goal

abbrev pub invariant-loop-value : goal.invariant-loop-value
invariant-loop-value g l = map deref_pair l.list.items ≡ map deref_pair l.fn.list.items ++ pairs_from l.key (take l.value-index l.values)
