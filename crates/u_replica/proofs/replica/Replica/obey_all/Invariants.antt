use Rattle.std.proofs.Common.{◌≡◌, ◌≤◌, take, length}
use Rattle.std.specs.Prelude.{vec_capacity}
use Rattle.u_machine.specs.State.{IsSettled}
use Rattle.u_replica.specs.ReplicaState.{HoldsAlways}
use Rattle.u_replica.specs.Obeying.{Obeys, Extends, AreMet}
use Rattle.u_replica.proofs.replica.Replica.obey_all.Given as goal

abbrev pub invariant-loop-call : goal.invariant-loop-call
invariant-loop-call l = record {
  obeys : Obeys l.fn.self (take l.call-index l.calls) l.answers.items l.self;
  holds : HoldsAlways l.self;
  extends : Extends l.fn.self l.self;
  settled : IsSettled l.fn.self.machine → AreMet l.answers.items → IsSettled l.self.machine;
  count : length l.answers.items ≡ l.call-index;
  room : length l.calls ≤ vec_capacity l.answers;
}
