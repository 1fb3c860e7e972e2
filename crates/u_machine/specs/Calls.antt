-- What each call of a machine answers, and what it leaves.
use Rattle.std.specs.Prelude.{◌≡◌, ℕ, ◌<◌, ◌≤◌, ◌+◌, List, [], ◌++◌, ◌⊎◌, ◌↔◌, length, IsTrue, false, Contains, Result, Ok, Err, slice_get, Some}
use Rattle.std.specs.declared.cmp.Ordering.TheVariants.{Less}
use Rattle.u_base.specs.Firing.{EachPlace, IsNextFrom, Plain, Held, Same}
use Rattle.u_rule.specs.declared.entry.Entry.{Entry}
use Rattle.u_rule.specs.declared.firing.Firing.{Firing}
use Rattle.u_rule.specs.Rule.{own_of}
use Rattle.u_rule.specs.EntryOrder.{firing_cmp}
use Rattle.u_machine.specs.State.{State, Taken, IsSettled, count_of, IsReady, IsPick, IsReadyIn, IsPickIn, NothingReady}
use Rattle.u_machine.specs.Headline.{IsWhole}
use Rattle.u_machine.specs.declared.answer.Refusal.{Refusal}
use Rattle.u_machine.specs.declared.answer.Refusal.TheVariants.{Full, NoMemory}
use Rattle.u_machine.specs.declared.answer.Ran.{Ran}
use Rattle.u_machine.specs.declared.answer.Ran.TheVariants as ran
use Rattle.u_machine.specs.declared.answer.Step.{Step}
use Rattle.u_machine.specs.declared.answer.Step.TheVariants as step
use Rattle.u_machine.specs.declared.answer.StepIn.{StepIn}
use Rattle.u_machine.specs.declared.answer.StepIn.TheVariants as within
use Rattle.u_machine.specs.declared.answer.Took.{Took}
use Rattle.u_machine.specs.declared.answer.Took.TheVariants as took
use Rattle.u_machine.specs.declared.answer.TakeRefusal.{TakeRefusal}
use Rattle.u_machine.specs.declared.answer.TakeRefusal.TheVariants as untaken

-- nothing is lost: the job and the limit stay, the log goes on, and the history keeps each entry
pub record Grows (old new : State) : Type 0 where
  pub job : new.job ≡ old.job
  pub limit : new.limit ≡ old.limit
  pub log : (rest : List Firing) × (new.log ≡ old.log ++ rest)
  pub history : (e : Entry) → Contains old.history e → Contains new.history e

-- taken firings may be applied, and nothing is taken or lost
pub record Applies (old new : State) : Type 0 where
  pub grows : Grows old new
  pub taken : (f : Firing) → Taken old f ↔ Taken new f
  pub count : count_of new ≡ count_of old

-- what was begun is applied, and nothing else changes; a settled machine stays as it is
pub record Settles (old new : State) : Type 0 where
  pub applies : Applies old new
  pub settled : IsSettled new
  pub still : IsSettled old → new ≡ old

-- something that an earlier call began could not be applied for want of memory
pub record StaysUnsettled (old new : State) : Type 0 where
  pub applies : Applies old new
  pub unsettled : IsSettled old → ⊥

-- f is taken besides, and nothing is lost; taken firings may be applied
pub record Takes (old : State) (f : Firing) (new : State) : Type 0 where
  pub grows : Grows old new
  pub taken : (g : Firing) → Taken new g ↔ (Taken old g ⊎ (f ≡ g))
  pub count : count_of new ≡ count_of old + 1

-- f was taken, or not yet; whatever was begun may be applied
abbrev pub TakesOrNot : State → Firing → State → Type 0
TakesOrNot old f new = Applies old new ⊎ Takes old f new

-- `pick` picks f of the ready firings, and there is room for it
abbrev pub MayFire : State → ℕ → Firing → Type 0
MayFire m pick f = IsPick m pick f × (count_of m < m.limit)

-- nothing is ready, and the history is whole; or the picked firing is applied; or there is no room; or
-- there is no memory, for what an earlier call began or for what the firing takes
abbrev pub FireAnswer : State → ℕ → Result Step Refusal → State → Type 0
FireAnswer old pick (Ok step.Quiet) new = NothingReady old × Settles old new × IsWhole new
FireAnswer old pick (Err Full) new = ((f : Firing) × IsReady old f) × (count_of old ≡ old.limit) × Settles old new
FireAnswer old pick (Ok (step.Fired place)) new =
    (f : Firing) × MayFire old pick f × Takes old f new × IsSettled new × (slice_get new.log place ≡ Some f)
FireAnswer old pick (Err NoMemory) new = StaysUnsettled old new ⊎ ((f : Firing) × MayFire old pick f × TakesOrNot old f new)

-- `pick` picks f of the ready firings whose bucket is in the mask, and there is room for it
abbrev pub MayFireIn : State → ℕ → ℕ → Firing → Type 0
MayFireIn m buckets pick f = IsPickIn m buckets pick f × (count_of m < m.limit)

-- something is ready, and nothing of it has its bucket in the mask
abbrev pub IsElsewhere : State → ℕ → Type 0
IsElsewhere m buckets = ((f : Firing) × IsReady m f) × ((f : Firing) → IsReadyIn m buckets f → ⊥)

-- nothing is ready, and the history is whole; or nothing that is ready is in the mask; or the picked
-- firing of those in the mask is applied; or there is no room for it; or there is no memory, for what an
-- earlier call began or for what the firing takes
abbrev pub FireInAnswer : State → ℕ → ℕ → Result StepIn Refusal → State → Type 0
FireInAnswer old buckets pick (Ok within.Quiet) new = NothingReady old × Settles old new × IsWhole new
FireInAnswer old buckets pick (Ok within.Elsewhere) new = IsElsewhere old buckets × Settles old new
FireInAnswer old buckets pick (Err Full) new = ((f : Firing) × IsReadyIn old buckets f) × (count_of old ≡ old.limit) × Settles old new
FireInAnswer old buckets pick (Ok (within.Fired place)) new =
    (f : Firing) × MayFireIn old buckets pick f × Takes old f new × IsSettled new × (slice_get new.log place ≡ Some f)
FireInAnswer old buckets pick (Err NoMemory) new =
    StaysUnsettled old new ⊎ ((f : Firing) × MayFireIn old buckets pick f × TakesOrNot old f new)

-- f is a firing of the job that is not taken, and there is room for it
pub record IsNew (m : State) (f : Firing) : Type 0 where
  pub firing : IsTrue ((own_of m.job).is_firing f)
  pub new : Taken m f → ⊥
  pub room : count_of m < m.limit

-- f was taken before; or it is new, and is applied or parked; or it is no firing of the job; or there
-- is no room; or there is no memory, for what an earlier call began or for a new firing
abbrev pub TakeAnswer : State → Firing → Result Took TakeRefusal → State → Type 0
TakeAnswer old f (Ok took.Known) new = Taken old f × Settles old new
TakeAnswer old f (Ok took.Taken) new = IsNew old f × Takes old f new × Contains new.log f × IsSettled new
TakeAnswer old f (Ok took.Parked) new = IsNew old f × Takes old f new × Contains new.parked f × IsSettled new
TakeAnswer old f (Err untaken.NotAFiring) new = ((own_of old.job).is_firing f ≡ false) × Settles old new
TakeAnswer old f (Err untaken.Full) new = IsTrue ((own_of old.job).is_firing f) × (Taken old f → ⊥) × (count_of old ≡ old.limit) × Settles old new
TakeAnswer old f (Err untaken.NoMemory) new = StaysUnsettled old new ⊎ (IsNew old f × TakesOrNot old f new)

-- f is g, or before it
abbrev pub firing_le : Firing → Firing → Type 0
firing_le f g = (firing_cmp f g ≡ Less) ⊎ (f ≡ g)

-- gs were fired one after another, each the least that was ready
pub record Fires (old : State) (gs : List Firing) (new : State) : Type 0 where
  pub grows : Grows old new
  pub each : EachPlace (IsNextFrom (own_of old.job) firing_le (Taken old)) gs
  pub taken : (g : Firing) → Taken new g ↔ (Taken old g ⊎ Contains gs g)
  pub count : count_of new ≡ count_of old + length gs

-- and all of them were applied; where nothing was parked before, they are all that was applied
pub record Runs (old : State) (gs : List Firing) (new : State) : Type 0 where
  pub fires : Fires old gs new
  pub alone : old.parked ≡ [] → (new.log ≡ old.log ++ gs) × (new.parked ≡ [])

-- gs were fired; then nothing is ready, and the history is whole; or the budget is spent, and more is
-- ready; or there is no room for what is ready; or there is no memory
abbrev pub RunAnswer : State → ℕ → Result Ran Refusal → State → Type 0
RunAnswer old budget (Ok ran.Quiet) new =
    (gs : List Firing) × Runs old gs new × (length gs ≤ budget) × IsSettled new × NothingReady new × IsWhole new
RunAnswer old budget (Ok ran.Paused) new =
    (gs : List Firing) × Runs old gs new × (length gs ≡ budget) × IsSettled new × ((f : Firing) × IsReady new f)
RunAnswer old budget (Err Full) new =
    (gs : List Firing) × Runs old gs new × (length gs < budget) × IsSettled new × ((f : Firing) × IsReady new f)
    × (count_of new ≡ new.limit)
RunAnswer old budget (Err NoMemory) new = (gs : List Firing) × Fires old gs new × (length gs ≤ budget)

-- no firing was taken yet
abbrev pub IsFresh : State → Type 0
IsFresh m = (m.log ≡ []) × (m.parked ≡ [])

-- The log is the plain run of the job: each firing the least that is enabled and new, so many at most. It is
-- all that was taken, and the history is what it holds.
pub record IsPlainRun (old : State) (budget : ℕ) (new : State) : Type 0 where
  pub job : new.job ≡ old.job
  pub parked : new.parked ≡ []
  pub plain : Plain (own_of old.job) firing_le budget new.log
  pub held : Same (Contains new.history) (Held (own_of old.job) new.log)

-- what a run of a machine leaves that had taken nothing: the plain run, where it is not refused; and it is not
-- refused for want of room where the budget is at most the limit
abbrev pub RunsPlainly : State → ℕ → Result Ran Refusal → State → Type 0
RunsPlainly old budget (Ok end) new = IsPlainRun old budget new
RunsPlainly old budget (Err Full) new = old.limit < budget
RunsPlainly old budget (Err NoMemory) new = Unit {0}
