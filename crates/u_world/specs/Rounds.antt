-- How one replica catches up with another: rounds of asking, answering and receiving.
--
-- s asks r, r answers that ask, and s receives that delta. While neither of them does anything else, each such
-- round brings s 4,096 more of the firings of r's log, until s has all of them.
use Rattle.std.specs.Prelude.{◌≡◌, ℕ, zero, suc, ◌+◌, ◌*◌, ◌≤◌, List, [], ◌∷◌, ◌++◌, length, take, min, nat_eq, if◌then◌else◌, Contains, slice_get, Some}
use Rattle.u_rule.specs.declared.firing.Firing.{Firing}
use Rattle.u_delta.specs.declared.message.Mark.{Mark}
use Rattle.u_delta.specs.declared.message.Message.{Message}
use Rattle.u_delta.specs.declared.message.Message.TheVariants as messages
use Rattle.u_delta.specs.Marks.{most_firings}
use Rattle.u_machine.specs.State.{Taken}
use Rattle.u_replica.specs.Marking.{mark, mark_of, most_count}
use Rattle.u_replica.specs.ReplicaState.{ReplicaState}
use Rattle.u_world.specs.declared.event.Event.{Event}
use Rattle.u_world.specs.declared.event.Event.TheVariants as events
use Rattle.u_world.specs.WorldState.{WorldState, At}
use Rattle.u_world.specs.Happenings.{EventStep}

-- the replica that a message is for: the one that answers an ask, or receives a delta
abbrev pub is_for : Message → ℕ
is_for (messages.Ask a) = a.asked
is_for (messages.Delta d) = d.receiver

-- the event is one of the replica with that number: it does something, or a message for it is delivered
abbrev pub IsOf : WorldState → ℕ → Event → Type 0
IsOf w k (events.Fire j pick) = j ≡ k
IsOf w k (events.Take j f) = j ≡ k
IsOf w k (events.Ask j i) = j ≡ k
IsOf w k (events.Deliver i) = (m : Message) × (slice_get w.messages i ≡ Some m) × (is_for m ≡ k)
IsOf w k (events.Merge j i) = j ≡ k
IsOf w k (events.Save j) = j ≡ k
IsOf w k (events.Restart j keep) = j ≡ k
IsOf w k (events.Bytes j bytes) = j ≡ k

-- events happen one after another, and none of them is one of s or of r
abbrev pub OthersDo : (s r : ℕ) → WorldState → List Event → WorldState → Type 0
OthersDo s r old [] new = new ≡ old
OthersDo s r old (e ∷ es) new = (mid : WorldState) × (IsOf old s e → ⊥) × (IsOf old r e → ⊥) × EventStep old e mid × OthersDo s r mid es new

-- A round: s asks r, r answers that ask, which was the next message, and s receives that delta, which was
-- the next message then. Before each of the three come events of other replicas, or none.
pub record Round (s r : ℕ) (old : WorldState) (es : List Event) (new : WorldState) : Type 0 where
  pub before_ask : List Event
  pub asking : WorldState
  pub others_first : OthersDo s r old before_ask asking
  pub asked : WorldState
  pub asks : EventStep asking (events.Ask s r) asked
  pub before_answer : List Event
  pub answering : WorldState
  pub others_then : OthersDo s r asked before_answer answering
  pub answered : WorldState
  pub answers : EventStep answering (events.Deliver (length asking.messages)) answered
  pub before_delta : List Event
  pub receiving : WorldState
  pub others_last : OthersDo s r answered before_delta receiving
  pub receives : EventStep receiving (events.Deliver (length answering.messages)) new
  pub list :
      es ≡ before_ask
      ++ (events.Ask s r ∷ (before_answer
      ++ (events.Deliver (length asking.messages) ∷ (before_delta
      ++ (events.Deliver (length answering.messages) ∷ [])))))

-- so many rounds, one after another, and then events of other replicas, or none
abbrev pub Rounds : (s r rounds : ℕ) → WorldState → List Event → WorldState → Type 0
Rounds s r zero old es new = OthersDo s r old es new
Rounds s r (suc n) old es new = (first rest : List Event) × (mid : WorldState) × (es ≡ first ++ rest) × Round s r old first mid × Rounds s r n mid rest new

-- how many first firings a mark counts of the log of a replica that lives that life
abbrev pub counted : Mark → ℕ → ℕ
counted m life = if nat_eq m.life life then m.count else 0

-- Once so many rounds are over r is as it was, and the mark of s for it counts 4,096 firings more for each
-- round, as far as r's log goes; s took that many of the log's first firings. Where the rounds are enough for
-- the log, n / 4,096 of them, rounded up, for a log of n firings, s has all of it.
pub record CatchesUp (s r rounds : ℕ) (old new : WorldState) : Type 0 where
  pub before : ReplicaState
  pub after : ReplicaState
  pub peer : ReplicaState
  pub before_at : At old.replicas s before
  pub after_at : At new.replicas s after
  pub peer_at : At old.replicas r peer
  pub peer_stays : At new.replicas r peer
  pub reach :
      mark_of after.marks r ≡ mark peer.life (min (length peer.machine.log) (counted (mark_of before.marks r) peer.life + rounds * most_firings))
  pub took : (f : Firing) → Contains (take (mark_of after.marks r).count peer.machine.log) f → Taken after.machine f
  pub all :
      length peer.machine.log ≤ rounds * most_firings → (mark_of after.marks r ≡ mark peer.life (length peer.machine.log))
      × ((f : Firing) → Contains peer.machine.log f → Taken after.machine f)

-- Where the events are one round or more of s and r, s catches up, in a world whose replicas take at most
-- 1,000,000 firings, which is what a mark can count.
abbrev pub RoundsCatchUp : WorldState → List Event → WorldState → Type 0
RoundsCatchUp old es new = (s r rounds : ℕ) → old.limit ≤ most_count → 1 ≤ rounds → Rounds s r rounds old es new → CatchesUp s r rounds old new

-- the event starts the replica with that number again
abbrev pub IsRestartOf : ℕ → Event → Type 0
IsRestartOf k (events.Restart j keep) = j ≡ k
IsRestartOf k e = ⊥

-- events happen one after another, and none of them starts s or r again
abbrev pub NoneRestarts : (s r : ℕ) → WorldState → List Event → WorldState → Type 0
NoneRestarts s r old [] new = new ≡ old
NoneRestarts s r old (e ∷ es) new = (mid : WorldState) × (IsRestartOf s e → ⊥) × (IsRestartOf r e → ⊥) × EventStep old e mid × NoneRestarts s r mid es new

-- so many rounds, and before, between and behind them any events that start neither s nor r again
abbrev pub RoundsAmong : (s r rounds : ℕ) → WorldState → List Event → WorldState → Type 0
RoundsAmong s r zero old es new = NoneRestarts s r old es new
RoundsAmong s r (suc n) old es new =
    (first round rest : List Event) × (start mid : WorldState) × (es ≡ first ++ (round ++ rest))
    × NoneRestarts s r old first start × Round s r start round mid × RoundsAmong s r n mid rest new

-- Meanwhile r goes on in the same life, and its log may grow. The mark of s for it counts at least as far as
-- r's log went at first, or 4,096 firings more for each round, and s took what it counts. Where the rounds
-- are enough for the log as it was at first, s has all of that.
pub record KeepsUp (s r rounds : ℕ) (old new : WorldState) : Type 0 where
  pub before : ReplicaState
  pub after : ReplicaState
  pub peer : ReplicaState
  pub later : ReplicaState
  pub before_at : At old.replicas s before
  pub after_at : At new.replicas s after
  pub peer_at : At old.replicas r peer
  pub later_at : At new.replicas r later
  pub life : later.life ≡ peer.life
  pub log : (rest : List Firing) × (later.machine.log ≡ peer.machine.log ++ rest)
  pub reach :
      min (length peer.machine.log) (counted (mark_of before.marks r) peer.life + rounds * most_firings) ≤ counted (mark_of after.marks r) later.life
  pub took : (f : Firing) → Contains (take (counted (mark_of after.marks r) later.life) later.machine.log) f → Taken after.machine f
  pub all : length peer.machine.log ≤ rounds * most_firings → (f : Firing) → Contains peer.machine.log f → Taken after.machine f

-- and where one round or more of s and r are among the events, s keeps up so far
abbrev pub RoundsKeepUp : WorldState → List Event → WorldState → Type 0
RoundsKeepUp old es new = (s r rounds : ℕ) → old.limit ≤ most_count → 1 ≤ rounds → RoundsAmong s r rounds old es new → KeepsUp s r rounds old new
