use Rattle.std.proofs.Common.{◌≡◌, ◌++◌, map}
use Rattle.std.specs.Map.Iter.{deref}
use Rattle.u_rule.specs.declared.firing.Firing.{Firing}
use Rattle.u_replica.proofs.merging.all_taken.Given as goal

abbrev pub invariant-loop-parked : goal.invariant-loop-parked
invariant-loop-parked l = l.all.items ≡ l.machine.log ++ map (deref {X = Firing}) l.yielded
