-- What an event does in a world, and what is answered where it does not happen.
use Rattle.std.specs.Prelude.{◌≡◌, ℕ, ◌+◌, ◌-◌, ◌^◌, ◌<◌, ◌⊎◌, List, length, take, Result, Ok, Err, slice_get, slice_set, Some}
use Rattle.u_delta.specs.declared.message.Ask.{Ask}
use Rattle.u_delta.specs.declared.message.Delta.{Delta}
use Rattle.u_delta.specs.declared.message.Message.{Message}
use Rattle.u_delta.specs.declared.message.Message.TheVariants as messages
use Rattle.u_delta.specs.Marks.{IsDelta}
use Rattle.u_delta.specs.Messages.{IsMessageOf}
use Rattle.u_machine.specs.Calls.{FireAnswer, TakeAnswer}
use Rattle.u_replica.specs.declared.checkpoint.Ending.{Ending}
use Rattle.u_replica.specs.Marking.{mark}
use Rattle.u_replica.specs.Merging.{all_of, MergeAnswer}
use Rattle.u_replica.specs.CheckpointText.{checkpoint_text}
use Rattle.u_replica.specs.Checkpoints as ranges
use Rattle.u_replica.specs.ReplicaState.{ReplicaState, ask_of}
use Rattle.u_replica.specs.Restoring.{IsRestored}
use Rattle.u_world.specs.declared.event.Event.{Event}
use Rattle.u_world.specs.declared.event.Event.TheVariants as events
use Rattle.u_world.specs.declared.refused.Refused.{Refused}
use Rattle.u_world.specs.declared.refused.Refused.TheVariants.{BadEvent, NoMemory}
use Rattle.u_world.specs.Refusals.{of_fire, of_take, of_merge}
use Rattle.u_world.specs.WorldState.{WorldState, world, At, Has, Changes, Sends}
use Rattle.u_world.specs.Acts.{Answers, Receives, TakesList}

-- the replicas and the message of the event are there, no replica asks or merges itself, and none that
-- starts again lives its last life
abbrev pub IsDoable : WorldState → Event → Type 0
IsDoable w (events.Fire k pick) = Has w k
IsDoable w (events.Take k f) = Has w k
IsDoable w (events.Ask k j) = Has w k × Has w j × (k ≡ j → ⊥)
IsDoable w (events.Deliver i) = i < length w.messages
IsDoable w (events.Merge k j) = Has w k × Has w j × (k ≡ j → ⊥)
IsDoable w (events.Save k) = Has w k
IsDoable w (events.Restart k keep) = (r : ReplicaState) × At w.replicas k r × (r.life + 1 < 2 ^ 64)
IsDoable w (events.Bytes k bytes) = Has w k

-- nothing changes, since there is no memory
abbrev pub IsUnmet : Refused → WorldState → WorldState → Type 0
IsUnmet e old new = (e ≡ NoMemory) × (new ≡ old)

-- the replica sends its ask
abbrev pub Asks : (k j : ℕ) → Result (Unit {0}) Refused → WorldState → WorldState → Type 0
Asks k j (Ok u) old new = (r : ReplicaState) × At old.replicas k r × Sends (messages.Ask (ask_of r j)) old new
Asks k j (Err e) old new = IsUnmet e old new

-- the replica that is asked sends the part of its log that the asker lacks
abbrev pub Replies : Ask → Result (Unit {0}) Refused → WorldState → WorldState → Type 0
Replies a (Ok u) old new =
    (r : ReplicaState) × At old.replicas a.asked r
    × (d : Delta) × IsDelta r.machine.log r.number a.asker r.life (mark a.life a.count) d × Sends (messages.Delta d) old new
Replies a (Err e) old new = IsUnmet e old new

-- an ask is answered, a delta is received
abbrev pub Delivers : Message → Result (Unit {0}) Refused → WorldState → WorldState → Type 0
Delivers (messages.Ask a) result old new = Replies a result old new
Delivers (messages.Delta d) result old new = Changes d.receiver (Receives d result) old new

-- the replica's checkpoint is kept, in place of the one before
abbrev pub Saves : ℕ → Result (Unit {0}) Refused → WorldState → WorldState → Type 0
Saves k (Ok u) old new =
    (r : ReplicaState) × At old.replicas k r × ranges.AreFirings (all_of r.machine)
    × (new ≡ world old.job old.limit old.replicas old.messages
    (slice_set old.saves (k - 1) (checkpoint_text r.machine.job.program.version (all_of r.machine))))
Saves k (Err e) old new = IsUnmet e old new

-- the replica's next life: it took the firings of the complete lines among the bytes that were kept, and
-- knows nothing of its peers
abbrev pub StartsAgain : WorldState → List ℕ → ReplicaState → ReplicaState → Type 0
StartsAgain w bytes old new = (ending : Ending) × IsRestored w.job w.limit old.number (old.life + 1) bytes ending new

abbrev pub Restarts : (k keep : ℕ) → Result (Unit {0}) Refused → WorldState → WorldState → Type 0
Restarts k keep (Ok u) old new = (saved : List ℕ) × At old.saves k saved × Changes k (StartsAgain old (take keep saved)) old new
Restarts k keep (Err e) old new = IsUnmet e old new

-- the bytes are no delta's text
abbrev pub IsNoDelta : List ℕ → Type 0
IsNoDelta bytes = (d : Delta) → IsMessageOf bytes (messages.Delta d) → ⊥

-- the firings of the delta that the bytes are the text of are taken, and no mark moves
abbrev pub TakesBytes : ℕ → List ℕ → Result (Unit {0}) Refused → WorldState → WorldState → Type 0
TakesBytes k bytes result old new = (d : Delta) × IsMessageOf bytes (messages.Delta d) × Changes k (TakesList d.firings result) old new

abbrev pub Arrives : ℕ → List ℕ → Result (Unit {0}) Refused → WorldState → WorldState → Type 0
Arrives k bytes (Ok u) old new = (IsNoDelta bytes × (new ≡ old)) ⊎ TakesBytes k bytes (Ok u) old new
Arrives k bytes (Err e) old new = IsUnmet e old new ⊎ TakesBytes k bytes (Err e) old new

-- what the event does, by its answer
abbrev pub Happens : Event → Result (Unit {0}) Refused → WorldState → WorldState → Type 0
Happens (events.Fire k pick) result old new = Changes k (Answers of_fire (λ r m n. FireAnswer m pick r n) result) old new
Happens (events.Take k f) result old new = Changes k (Answers of_take (λ r m n. TakeAnswer m f r n) result) old new
Happens (events.Ask k j) result old new = Asks k j result old new
Happens (events.Deliver i) result old new = (m : Message) × (slice_get old.messages i ≡ Some m) × Delivers m result old new
Happens (events.Merge k j) result old new =
    (o : ReplicaState) × At old.replicas j o × Changes k (Answers of_merge (λ r m n. MergeAnswer m o.machine r n) result) old new
Happens (events.Save k) result old new = Saves k result old new
Happens (events.Restart k keep) result old new = Restarts k keep result old new
Happens (events.Bytes k bytes) result old new = Arrives k bytes.items result old new

-- it cannot be done, and nothing changes; or it is done, or refused
abbrev pub EventAnswer : WorldState → Event → Result (Unit {0}) Refused → WorldState → Type 0
EventAnswer old e result new = ((IsDoable old e → ⊥) × (result ≡ Err BadEvent) × (new ≡ old)) ⊎ (IsDoable old e × Happens e result old new)

-- the event can be done, and happens
abbrev pub EventStep : WorldState → Event → WorldState → Type 0
EventStep old e new = IsDoable old e × Happens e (Ok tt) old new
