-- What happened in a world: of each event of a list, which replica did what, as the world before the event and
-- the world after it say.
use Rattle.std.specs.Prelude.{◌≡◌, ℕ, suc, ◌-◌, ◌<◌, Bool, true, false, if◌then◌else◌, List, [], ◌∷◌, ◌++◌, length, map, Option, Some, None, Err, slice_get}
use Rattle.u_rule.specs.declared.firing.Firing.{Firing}
use Rattle.u_delta.specs.declared.message.Message.{Message}
use Rattle.u_delta.specs.declared.message.Message.TheVariants as messages
use Rattle.u_machine.specs.State.{count_of}
use Rattle.u_replica.specs.ReplicaState.{ReplicaState}
use Rattle.u_world.specs.declared.event.Event.{Event}
use Rattle.u_world.specs.declared.event.Event.TheVariants as events
use Rattle.u_world.specs.declared.refused.WorldError.{WorldError}
use Rattle.u_world.specs.declared.refused.WorldError.TheVariants as errors
use Rattle.u_world.specs.WorldState.{WorldState}
use Rattle.u_world.specs.Happenings.{EventStep}
use Rattle.u_world.specs.Runs.{EventsAnswer}
use Rattle.u_pictures.specs.declared.happening.Spot.{Spot}
use Rattle.u_pictures.specs.declared.happening.Deed.{Deed}
use Rattle.u_pictures.specs.declared.happening.Deed.TheVariants as deeds
use Rattle.u_pictures.specs.declared.happening.Happening.{Happening}
use Rattle.u_pictures.specs.declared.living.Sent.{Sent}

-- the firings that a replica applied, and how many it took
abbrev pub log_of : Option ReplicaState → List Firing
log_of None = []
log_of (Some r) = r.machine.log

abbrev pub taken_of : Option ReplicaState → ℕ
taken_of None = 0
taken_of (Some r) = count_of r.machine

-- the same of the replica with that number
abbrev pub log_in : WorldState → ℕ → List Firing
log_in w k = log_of (slice_get w.replicas (k - 1))

abbrev pub taken_in : WorldState → ℕ → ℕ
taken_in w k = taken_of (slice_get w.replicas (k - 1))

-- the first firing that the replica's log has more afterwards
abbrev pub first_more : WorldState → WorldState → ℕ → Option Firing
first_more old new k = slice_get (log_in new k) (length (log_in old k))

-- a message that was sent in that row
abbrev pub spot : ℕ → ℕ → Spot
spot row k = record { row = row; replica = k }

abbrev pub posted : ℕ → Message → Sent
posted row (messages.Ask a) = record { is_ask = true; from = spot row a.asker; to = a.asked }
posted row (messages.Delta d) = record { is_ask = false; from = spot row d.sender; to = d.receiver }

-- what was sent by and by: the messages that the world has more, in this row
pub record Posts (row : ℕ) (old new : WorldState) (sent later : List Sent) : Type 0 where
  pub more : List Message
  pub messages : new.messages ≡ old.messages ++ more
  pub later_is : later ≡ sent ++ map (posted row) more

-- the replica that does what the event says: a message is delivered to the one that it is for
abbrev pub IsDoer : List Sent → Event → ℕ → Type 0
IsDoer sent (events.Fire k pick) n = n ≡ k
IsDoer sent (events.Take k f) n = n ≡ k
IsDoer sent (events.Ask k j) n = n ≡ k
IsDoer sent (events.Deliver i) n = (s : Sent) × (slice_get sent i ≡ Some s) × (n ≡ s.to)
IsDoer sent (events.Merge k j) n = n ≡ k
IsDoer sent (events.Save k) n = n ≡ k
IsDoer sent (events.Restart k keep) n = n ≡ k
IsDoer sent (events.Bytes k bytes) n = n ≡ k

-- by the first firing that a log has more
abbrev pub fires : Option Firing → Deed
fires None = deeds.Idles
fires (Some f) = deeds.Fires f.activity

-- by what was delivered, and how many firings were new
abbrev pub came : Sent → ℕ → Deed
came s n = if s.is_ask then deeds.Answers s.from else deeds.Takes (Some s.from) n

-- what the event was to a replica that took so many firings before and afterwards
abbrev pub IsDeed : List Sent → Event → (had has : ℕ) → Option Firing → Deed → Type 0
IsDeed sent (events.Fire k pick) had has first d = d ≡ fires first
IsDeed sent (events.Take k f) had has first d = d ≡ deeds.Takes None (has - had)
IsDeed sent (events.Ask k j) had has first d = d ≡ deeds.Asks j
IsDeed sent (events.Deliver i) had has first d = (s : Sent) × (slice_get sent i ≡ Some s) × (d ≡ came s (has - had))
IsDeed sent (events.Merge k j) had has first d = d ≡ deeds.Merges j (has - had)
IsDeed sent (events.Save k) had has first d = d ≡ deeds.Saves
IsDeed sent (events.Restart k keep) had has first d = d ≡ deeds.Restarts had has
IsDeed sent (events.Bytes k bytes) had has first d = d ≡ deeds.Takes None (has - had)

-- what happened in the event, by the world before it and the world after it
pub record IsDone (sent : List Sent) (old : WorldState) (e : Event) (new : WorldState) (h : Happening) : Type 0 where
  pub doer : IsDoer sent e h.replica
  pub deed : IsDeed sent e (taken_in old h.replica) (taken_in new h.replica) (first_more old new h.replica) h.deed

-- the event in that row happens, and h says what it did
pub record Does (row : ℕ) (sent : List Sent) (old : WorldState) (e : Event) (h : Happening) (later : List Sent) (new : WorldState) : Type 0 where
  pub step : EventStep old e new
  pub done : IsDone sent old e new h
  pub posts : Posts row old new sent later

-- the events happen one after another, the first of them in that row, and hs say what they did
abbrev pub Lives : (row : ℕ) (sent : List Sent) (old : WorldState) → List Event → List Happening → (later : List Sent) (new : WorldState) → Type 0
Lives row sent old [] hs later new = (hs ≡ []) × (later ≡ sent) × (new ≡ old)
Lives row sent old (e ∷ es) hs later new =
    (h : Happening) × (rest : List Happening) × (now : List Sent) × (mid : WorldState)
    × (hs ≡ h ∷ rest) × Does row sent old e h now mid × Lives (suc row) now mid es rest later new

-- the events are refused as a world refuses them; or there is no memory
abbrev pub LiveRefused : WorldState → List Event → WorldError → WorldState → Type 0
LiveRefused old es (errors.BadEvent place) new = EventsAnswer old es (Err (errors.BadEvent place)) new
LiveRefused old es (errors.Full place) new = EventsAnswer old es (Err (errors.Full place)) new
LiveRefused old es (errors.NoMemory place) new = Unit {0}

-- the same of one event
abbrev pub RefusedOne : WorldState → Event → WorldError → WorldState → Type 0
RefusedOne old e error new = LiveRefused old (e ∷ []) error new

abbrev pub error_in : WorldError → ℕ → WorldError
error_in (errors.BadEvent n) place = errors.BadEvent place
error_in (errors.Full n) place = errors.Full place
error_in (errors.NoMemory n) place = errors.NoMemory place

-- the message that the event delivers is among those that were sent
abbrev pub IsKnown : List Sent → Event → Type 0
IsKnown sent (events.Deliver i) = i < length sent
IsKnown sent e = Unit {0}

-- a message without its row, by what was noted of it and by itself
abbrev pub noted : Sent → Bool × (ℕ × ℕ)
noted s = (s.is_ask, (s.from.replica, s.to))

abbrev pub letter : Message → Bool × (ℕ × ℕ)
letter (messages.Ask a) = (true, (a.asker, a.asked))
letter (messages.Delta d) = (false, (d.sender, d.receiver))

-- what was noted is what was sent
abbrev pub Agree : List Sent → List Message → Type 0
Agree sent ms = map noted sent ≡ map letter ms

-- what is noted in that row of an answer to an ask
abbrev pub answered : ℕ → Sent → List Sent → List Sent
answered row s sent =
    if s.is_ask then sent ++ (record { is_ask = false; from = spot row s.to; to = s.from.replica } ∷ []) else sent

abbrev pub answered_at : ℕ → Option Sent → List Sent → List Sent
answered_at row None sent = sent
answered_at row (Some s) sent = answered row s sent

-- what is noted once the event in that row happened
abbrev pub sent_by : ℕ → Event → List Sent → List Sent
sent_by row (events.Ask k j) sent = sent ++ (record { is_ask = true; from = spot row k; to = j } ∷ [])
sent_by row (events.Deliver i) sent = answered_at row (slice_get sent i) sent
sent_by row e sent = sent

-- the event in that row happens, h says what it did, and the notes agree with the messages still
abbrev pub Goes : (row : ℕ) (sent : List Sent) (old : WorldState) (e : Event) (h : Happening) (new : WorldState) → Type 0
Goes row sent old e h new = Does row sent old e h (sent_by row e sent) new × Agree (sent_by row e sent) new.messages
