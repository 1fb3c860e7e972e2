-- What replicas promise after every list of events, in the words of those who use them.
--
-- Replicas of one job fire, take firings, send each other parts of their logs, lose and repeat messages,
-- merge, save, stop and start again. What one of them holds afterwards is fixed by the set of firings
-- that it took, in whatever order; it is the history of one run of the job; a merge is the least upper
-- bound of two replicas; and where a replica finds nothing ready, it holds all that any run reaches, so
-- its answer or its clashes are those of every other replica that finds nothing ready. The events
-- are those of `specs/Happenings.antt`, the sets of one machine those of `u_machine/specs/Headline.antt`.
use Rattle.std.specs.Prelude.{◌≡◌, ℕ, List, [], ◌∷◌, length, Contains, Result, Ok, Err}
use Rattle.u_base.specs.Firing.{Derivation, Held, Whole, Same}
use Rattle.u_rule.specs.Rule.{own_of}
use Rattle.u_rule.specs.declared.entry.Entry.{Entry}
use Rattle.u_machine.specs.State.{Taken, IsSettled, NothingReady}
use Rattle.u_machine.specs.Headline.{IsClosure, IsWhole, Agree}
use Rattle.u_replica.specs.Marking.{mark, mark_of}
use Rattle.u_replica.specs.ReplicaState.{ReplicaState}
use Rattle.u_replica.specs.Merging.{IsLeastAbove}
use Rattle.u_world.specs.declared.event.Event.{Event}
use Rattle.u_world.specs.declared.event.Event.TheVariants as events
use Rattle.u_world.specs.declared.refused.WorldError.{WorldError}
use Rattle.u_world.specs.declared.refused.WorldError.TheVariants as errors
use Rattle.u_world.specs.WorldState.{WorldState, At}
use Rattle.u_world.specs.Happenings.{EventStep}
use Rattle.u_world.specs.Worlds.{IsHonest}

-- each replica has applied all that it could: so it is in a new world
abbrev pub AllSettled : WorldState → Type 0
AllSettled w = (k : ℕ) (r : ReplicaState) → At w.replicas k r → IsSettled r.machine

-- and so it stays after each list of events of which none is refused for want of memory
abbrev pub StaySettled : WorldState → Result (Unit {0}) WorldError → WorldState → Type 0
StaySettled old (Ok u) new = AllSettled old → AllSettled new
StaySettled old (Err (errors.BadEvent place)) new = AllSettled old → AllSettled new
StaySettled old (Err (errors.Full place)) new = AllSettled old → AllSettled new
StaySettled old (Err (errors.NoMemory place)) new = Unit {0}

-- P of each replica of the world that has applied all that it could
abbrev pub OfEach : WorldState → (ReplicaState → Type 0) → Type 0
OfEach w P = (k : ℕ) (r : ReplicaState) → At w.replicas k r → IsSettled r.machine → P r

-- Fixed by the set: the history of each replica is the closure of the set of firings that it took.
abbrev pub IsFixedByItsSet : WorldState → Type 0
IsFixedByItsSet w = OfEach w (λ r. IsClosure r.machine)

-- One run: the applied firings are a run of the job, and the history is what that run holds, so each
-- entry is one that a run of the job reaches.
pub record IsOfOneRun (r : ReplicaState) : Type 0 where
  pub run : Derivation (own_of r.machine.job) r.machine.log
  pub held : Same (Contains r.machine.history) (Held (own_of r.machine.job) r.machine.log)
  pub reached : (e : Entry) → Contains r.machine.history e → Whole (own_of r.machine.job) e

abbrev pub AreOfOneRun : WorldState → Type 0
AreOfOneRun w = OfEach w IsOfOneRun

-- Quiet is whole: where nothing is ready the history is that of the whole job.
abbrev pub QuietIsWhole : WorldState → Type 0
QuietIsWhole w = OfEach w (λ r. NothingReady r.machine → IsWhole r.machine)

-- Honest marks: what a replica's mark counts of a peer's log, the replica took.
abbrev pub AreHonest : WorldState → Type 0
AreHonest w = (k j : ℕ) (r p : ReplicaState) → (k ≡ j → ⊥) → At w.replicas k r → At w.replicas j p → IsHonest r p

-- the replica has heard all of the peer: its mark is of the life that the peer lives, and counts its whole log
abbrev pub HasHeardAll : ReplicaState → ReplicaState → Type 0
HasHeardAll own peer = mark_of own.marks peer.number ≡ mark peer.life (length peer.machine.log)

-- all that the replica took is applied
abbrev pub ParksNothing : ReplicaState → Type 0
ParksNothing r = r.machine.parked ≡ []

-- the two took the same firings; and where both have applied all that they could, they hold the same
-- history, the very list, so that whatever is written of it is the same bytes
pub record HoldTheSame (r p : ReplicaState) : Type 0 where
  pub taken : Same (Taken p.machine) (Taken r.machine)
  pub history : IsSettled r.machine → IsSettled p.machine → p.machine.history ≡ r.machine.history

-- Exchanged in full: two replicas which have heard all of each other, and neither of which has a firing
-- parked, hold the same. A mark counts applied firings alone, so a parked one could be unheard of.
abbrev pub ExchangeInFull : WorldState → Type 0
ExchangeInFull w =
    (k j : ℕ) (r p : ReplicaState) → (k ≡ j → ⊥) → At w.replicas k r → At w.replicas j p → HasHeardAll r p → HasHeardAll p r
    → ParksNothing r → ParksNothing p → HoldTheSame r p

-- Equal sets, equal histories: two replicas of one job that took the same firings have the same history,
-- the very list, in one world or in two.
abbrev pub AgreeOnSets : WorldState → WorldState → Type 0
AgreeOnSets v w = (k j : ℕ) (r p : ReplicaState) → At v.replicas k r → At w.replicas j p → Agree r.machine p.machine

-- what holds of the world's replicas after every list of events
pub record KeepsTheHeadline (w : WorldState) : Type 0 where
  pub fixed : IsFixedByItsSet w
  pub one_run : AreOfOneRun w
  pub whole : QuietIsWhole w
  pub honest : AreHonest w
  pub exchanged : ExchangeInFull w
  pub equal_sets : AgreeOnSets w w

-- Least upper bound: a replica that merges another is then the least that is above both. It took the union
-- of what the two took, and its history is the least that has both histories and all that its firings
-- give which are enabled over it.
pub record MergesInto (k j : ℕ) (old new : WorldState) : Type 0 where
  pub before : ReplicaState
  pub other : ReplicaState
  pub after : ReplicaState
  pub before_at : At old.replicas k before
  pub other_at : At old.replicas j other
  pub after_at : At new.replicas k after
  pub least : IsLeastAbove before.machine other.machine after.machine

abbrev pub IsLeastUpperBound : WorldState → Event → WorldState → Type 0
IsLeastUpperBound old (events.Merge k j) new = MergesInto k j old new
IsLeastUpperBound old e new = Unit {0}

-- and so is each merge within a list of events that happen one after another
abbrev pub MergesAreLeast : WorldState → List Event → WorldState → Type 0
MergesAreLeast old [] new = new ≡ old
MergesAreLeast old (e ∷ es) new = (mid : WorldState) × EventStep old e mid × IsLeastUpperBound old e mid × MergesAreLeast mid es new
