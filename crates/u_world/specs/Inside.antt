-- A world's state, as it is kept.
use Rattle.std.specs.Prelude.{List, Contains}
use Rattle.u_replica.specs.ReplicaState.{ReplicaState, HoldsAlways}
use Rattle.u_world.specs.declared.inside.Inside.{Inside}
use Rattle.u_world.specs.WorldState.{WorldState, world}

abbrev pub world_of : Inside → WorldState
world_of i = world i.job.now i.limit i.replicas.items i.messages.items i.saves.items

-- each of them is a replica
abbrev pub AllHold : List ReplicaState → Type 0
AllHold rs = (r : ReplicaState) → Contains rs r → HoldsAlways r
