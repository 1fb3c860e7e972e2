-- What merging a replica into another leaves: the least upper bound of the two.
use Rattle.std.specs.Prelude.{◌≡◌, List, [], ◌++◌, ◌⊎◌, ◌↔◌, Contains, Result, Ok, Err}
use Rattle.u_base.specs.Firing.{Enabled, Same}
use Rattle.u_check.specs.Jobs.{JobParts}
use Rattle.u_rule.specs.Rule.{own_of}
use Rattle.u_rule.specs.declared.entry.Entry.{Entry}
use Rattle.u_rule.specs.declared.firing.Firing.{Firing}
use Rattle.u_machine.specs.State.{State, Taken, IsSettled}
use Rattle.u_machine.specs.Taking.{IsTooLong, TakesAll, TakeAllAnswer}
use Rattle.u_machine.specs.Calls.{Settles}
use Rattle.u_machine.specs.declared.answer.ListRefusal.TheVariants as lists
use Rattle.u_replica.specs.declared.answer.MergeRefusal.{MergeRefusal}
use Rattle.u_replica.specs.declared.answer.MergeRefusal.TheVariants.{OtherJob, Full, NoMemory}

-- all that a machine took, as it is saved: the applied firings in their order, then the parked ones
abbrev pub all_of : State → List Firing
all_of m = m.log ++ m.parked

-- what the first took, the second took
abbrev pub IsTakenWithin : State → State → Type 0
IsTakenWithin a b = (f : Firing) → Taken a f → Taken b f

-- the set has all that firings of M give which are enabled over it
abbrev pub IsClosedUnder : JobParts → (Firing → Type 0) → List Entry → Type 0
IsClosedUnder job M h = (f : Firing) → M f → Enabled (own_of job) (Contains h) f → (e : Entry) → Contains ((own_of job).gives f) e → Contains h e

-- each entry of the first is one of the second
abbrev pub LiesIn : List Entry → List Entry → Type 0
LiesIn g h = (e : Entry) → Contains g e → Contains h e

-- h has both histories, and all that firings of M give which are enabled over it
pub record IsAbove (a b : State) (M : Firing → Type 0) (h : List Entry) : Type 0 where
  pub left : LiesIn a.history h
  pub right : LiesIn b.history h
  pub closed : IsClosedUnder a.job M h

-- The merged machine is the least upper bound of the two. Its taken set is their union, so it lies in
-- each that has both. Its history is the least that has both histories and all that taken firings give
-- which are enabled over it; where neither side has parked firings it is the union of the two.
pub record IsLeastAbove (a b new : State) : Type 0 where
  pub union : (f : Firing) → Taken new f ↔ (Taken a f ⊎ Taken b f)
  pub least : (m : State) → IsTakenWithin a m → IsTakenWithin b m → IsTakenWithin new m
  pub above : IsAbove a b (Taken new) new.history
  pub history : (h : List Entry) → IsAbove a b (Taken new) h → LiesIn new.history h
  pub together : a.parked ≡ [] → b.parked ≡ [] → Same (Contains new.history) (λ e. Contains a.history e ⊎ Contains b.history e)

-- all that the other took is taken; or the jobs differ, and nothing is done; or there is no room; or, as
-- `take_all` answers, there is no memory, for what an earlier call began or where there is room
abbrev pub MergeAnswer : State → State → Result (Unit {0}) MergeRefusal → State → Type 0
MergeAnswer old other (Ok u) new = (other.job ≡ old.job) × TakesAll old (all_of other) new × IsSettled new × IsLeastAbove old other new
MergeAnswer old other (Err OtherJob) new = (other.job ≡ old.job → ⊥) × (new ≡ old)
MergeAnswer old other (Err Full) new = (other.job ≡ old.job) × IsTooLong old (all_of other) × Settles old new
MergeAnswer old other (Err NoMemory) new = (other.job ≡ old.job) × TakeAllAnswer old (all_of other) (Err lists.NoMemory) new
