use Rattle.std.proofs.Common.{◌≡◌, take}
use Rattle.u_rule.proofs.values.copies.Given as goal

abbrev pub invariant-loop-value : goal.invariant-loop-value
invariant-loop-value l = l.list.items ≡ take l.value-index l.values
