use Rattle.std.proofs.Common.{◌≡◌, ◌++◌, map}
use Rattle.std.specs.Map.Iter.{deref}
use Rattle.u_base.specs.Spaced.{ended}
use Rattle.u_rule.specs.FiringText.{firing_text}
use Rattle.u_rule.specs.declared.firing.Firing.{Firing}
use Rattle.u_replica.proofs.checkpoint.push_set.Given as goal

abbrev pub invariant-loop-firing : goal.invariant-loop-firing
invariant-loop-firing l = l.out.items ≡ l.initial.out.items ++ ended (map firing_text (map (deref {X = Firing}) l.yielded))
