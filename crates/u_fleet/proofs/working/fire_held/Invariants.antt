use Rattle.std.proofs.Common.{◌≡◌, length, List}
use Rattle.u_rule.specs.declared.firing.Firing.{Firing}
use Rattle.u_replica.specs.ReplicaState.{ChangesMachine}
use Rattle.u_fleet.specs.Working.{FiresIn}
use Rattle.u_fleet.proofs.working.fire_held.Given as goal

abbrev pub invariant-loop-fired : goal.invariant-loop-fired
invariant-loop-fired l = record {
  alone : ChangesMachine l.fn.replica l.replica;
  ran : (gs : List Firing) × FiresIn l.held l.fn.replica.machine gs l.replica.machine × (length gs ≡ l.fired);
}
