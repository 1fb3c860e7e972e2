-- What one replica does in an event, and what it answers.
use Rattle.std.specs.Prelude.{◌≡◌, ℕ, ◌⊎◌, List, Result, Ok, Err}
use Rattle.u_rule.specs.declared.firing.Firing.{Firing}
use Rattle.u_delta.specs.declared.message.Delta.{Delta}
use Rattle.u_machine.specs.State.{State}
use Rattle.u_machine.specs.Taking.{TakeAllAnswer}
use Rattle.u_machine.specs.declared.answer.ListRefusal.{ListRefusal}
use Rattle.u_machine.specs.declared.answer.ListRefusal.TheVariants as unlisted
use Rattle.u_replica.specs.ReplicaState.{ReplicaState, ChangesMachine}
use Rattle.u_replica.specs.Receiving.{ReceiveAnswer}
use Rattle.u_world.specs.Refusals.{of_list}
use Rattle.u_world.specs.declared.refused.Refused.{Refused}
use Rattle.u_world.specs.declared.refused.Refused.TheVariants as refusals

-- what a call of the replica answers of which the machine has that answer, when refusals are named so
abbrev pub Answers : {T E : Type 0} → (E → Refused) → (Result T E → State → State → Type 0) → Result (Unit {0}) Refused → ReplicaState → ReplicaState → Type 0
Answers {T} {E} name A (Ok u) old new = (t : T) × A (Ok t) old.machine new.machine × ChangesMachine old new
Answers {T} {E} name A (Err e) old new = (x : E) × (e ≡ name x) × A (Err x) old.machine new.machine × ChangesMachine old new

-- the delta is received
abbrev pub Receives : Delta → Result (Unit {0}) Refused → ReplicaState → ReplicaState → Type 0
Receives d (Ok u) old new = ReceiveAnswer old d (Ok u) new
Receives d (Err e) old new = (x : ListRefusal) × (e ≡ of_list x) × ReceiveAnswer old d (Err x) new

-- the firings are taken, or nothing is, where one of them is no firing of the job; and no mark moves
abbrev pub TakesList : List Firing → Result (Unit {0}) Refused → ReplicaState → ReplicaState → Type 0
TakesList fs (Ok u) old new =
    (TakeAllAnswer old.machine fs (Ok u) new.machine ⊎ ((place : ℕ) × TakeAllAnswer old.machine fs (Err (unlisted.NotAFiring place)) new.machine))
    × ChangesMachine old new
TakesList fs (Err e) old new =
    (x : ListRefusal) × (e ≡ of_list x) × (e ≡ refusals.BadEvent → ⊥)
    × TakeAllAnswer old.machine fs (Err x) new.machine × ChangesMachine old new
