-- What gathering answers.
use Rattle.std.specs.Prelude.{◌≡◌, ℕ, List, Result, Ok, Err}
use Rattle.u_rule.specs.declared.firing.Firing.{Firing}
use Rattle.u_machine.specs.Calls.{Settles}
use Rattle.u_machine.specs.Taking.{IsTooLong, TakesAll, TakesSome}
use Rattle.u_replica.specs.ReplicaState.{ReplicaState}
use Rattle.u_fleet.specs.declared.answer.GatherFault.{GatherFault}
use Rattle.u_fleet.specs.declared.answer.GatherFault.TheVariants.{NoReading, Full, NoMemory}

-- all of the list are taken; or none, without a reading or as they are too many; or the first ones, where there is no memory
abbrev pub GatherAnswer : ReplicaState → List Firing → Result ℕ GatherFault → ReplicaState → Type 0
GatherAnswer old fs (Ok n) new = TakesAll old.machine fs new.machine
GatherAnswer old fs (Err NoReading) new = new ≡ old
GatherAnswer old fs (Err Full) new = IsTooLong old.machine fs × Settles old.machine new.machine
GatherAnswer old fs (Err NoMemory) new = TakesSome old.machine fs new.machine
