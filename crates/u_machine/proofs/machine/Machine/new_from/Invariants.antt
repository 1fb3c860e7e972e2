use Rattle.std.proofs.Common.{◌++◌, ◌-◌, ◌≤◌, map}
use Rattle.std.specs.Map.Iter.{deref}
use Rattle.u_rule.specs.declared.firing.Firing.{Firing}
use Rattle.u_machine.specs.Taking.{HasSoManyNew}
use Rattle.u_machine.proofs.machine.Machine.new_from.Given as goal

abbrev pub invariant-loop-firing : goal.invariant-loop-firing
invariant-loop-firing l = record {
  within : l.rest ≤ l.other.limit;
  counted : HasSoManyNew l.self (l.other.log ++ map (deref {X = Firing}) l.yielded) (l.other.limit - l.rest);
}
