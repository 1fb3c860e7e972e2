use Rattle.std.proofs.Common.{take}
use Rattle.u_rule.specs.FiringReading.{AreValues}
use Rattle.u_delta.proofs.ranges.values_in_range.Given as goal

abbrev pub invariant-loop-value : goal.invariant-loop-value
invariant-loop-value l = AreValues (take l.value-index l.values)
