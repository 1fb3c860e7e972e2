-- What receiving a delta answers, and what it leaves.
use Rattle.std.specs.Prelude.{◌≡◌, Result, Ok, Err}
use Rattle.u_delta.specs.declared.message.Delta.{Delta}
use Rattle.u_machine.specs.Taking.{TakeAllAnswer}
use Rattle.u_machine.specs.declared.answer.ListRefusal.{ListRefusal}
use Rattle.u_replica.specs.Marking.{marks_after}
use Rattle.u_replica.specs.ReplicaState.{ReplicaState, replica}

-- the delta's firings are taken, or refused; the sender's mark moves where they are taken, and no other
-- mark
abbrev pub ReceiveAnswer : ReplicaState → Delta → Result (Unit {0}) ListRefusal → ReplicaState → Type 0
ReceiveAnswer old delta (Ok u) new =
    TakeAllAnswer old.machine delta.firings (Ok u) new.machine
    × (new ≡ replica new.machine old.number old.life (marks_after old.number delta old.marks))
ReceiveAnswer old delta (Err refusal) new =
    TakeAllAnswer old.machine delta.firings (Err refusal) new.machine
    × (new ≡ replica new.machine old.number old.life old.marks)
