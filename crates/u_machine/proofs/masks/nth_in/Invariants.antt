use Rattle.std.proofs.Common.{◌≡◌, ◌+◌, length, map}
use Rattle.std.specs.Map.Iter.{deref}
use Rattle.u_rule.specs.declared.firing.Firing.{Firing}
use Rattle.u_machine.specs.Masks.{those_in}
use Rattle.u_machine.proofs.masks.nth_in.Given as goal

abbrev pub invariant-loop-firing : goal.invariant-loop-firing
invariant-loop-firing l = length (those_in l.buckets (map (deref {X = Firing}) l.yielded)) + l.left ≡ l.before
