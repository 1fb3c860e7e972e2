use Rattle.std.proofs.Common.{take}
use Rattle.std.specs.List.{AllByRecursion}
use Rattle.u_rule.specs.FiringReading.{IsFiring}
use Rattle.u_delta.proofs.ranges.all_in_range.Given as goal

abbrev pub invariant-loop-firing : goal.invariant-loop-firing
invariant-loop-firing l = AllByRecursion IsFiring (take l.firing-index l.firings)
