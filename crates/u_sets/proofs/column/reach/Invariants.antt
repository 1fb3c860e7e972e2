use Rattle.std.proofs.Common.{◌≡◌, ◌-◌, ◌+◌, length}
use Rattle.u_sets.specs.Columns.{numbered_pairs}
use Rattle.u_sets.proofs.column.reach.Given as goal

abbrev pub invariant-loop-places : goal.invariant-loop-places
invariant-loop-places g l = numbered_pairs l.places.items ≡ numbered_pairs l.fn.places.items

abbrev pub decreases-loop-places : goal.decreases-loop-places
decreases-loop-places g l = l.number + 1 - length l.places.items
