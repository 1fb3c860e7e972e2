use Rattle.std.proofs.Common.{map}
use Rattle.std.specs.Map.Iter.{deref}
use Rattle.u_rule.specs.declared.firing.Firing.{Firing}
use Rattle.u_replica.specs.Checkpoints.{AreFirings}
use Rattle.u_replica.proofs.checkpoint.set_in_range.Given as goal

abbrev pub invariant-loop-firing : goal.invariant-loop-firing
invariant-loop-firing l = AreFirings (map (deref {X = Firing}) l.yielded)
