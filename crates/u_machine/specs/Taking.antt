-- Lists of firings that a machine takes.
use Rattle.std.specs.Prelude.{◌≡◌, ℕ, ◌<◌, ◌≤◌, ◌+◌, List, ◌⊎◌, ◌↔◌, length, take, IsTrue, false, Contains, Result, Ok, Err, slice_get, Some}
use Rattle.u_base.specs.Firing.{Distinct}
use Rattle.u_rule.specs.declared.firing.Firing.{Firing}
use Rattle.u_check.specs.Jobs.{JobParts}
use Rattle.u_rule.specs.Rule.{own_of}
use Rattle.u_machine.specs.declared.answer.ListRefusal.{ListRefusal}
use Rattle.u_machine.specs.declared.answer.ListRefusal.TheVariants.{NotAFiring, Full, NoMemory}
use Rattle.u_machine.specs.State.{State, Taken, IsSettled, count_of}
use Rattle.u_machine.specs.Calls.{Grows, Settles, StaysUnsettled}

-- each of the list is a firing of the job
abbrev pub AreFirings : JobParts → List Firing → Type 0
AreFirings job fs = (f : Firing) → Contains fs f → IsTrue ((own_of job).is_firing f)

-- the one at that place is the first that is none
pub record IsFirstOther (job : JobParts) (fs : List Firing) (place : ℕ) : Type 0 where
  pub other : Firing
  pub at : slice_get fs place ≡ Some other
  pub none : (own_of job).is_firing other ≡ false
  pub before : AreFirings job (take place fs)

-- fs are taken besides, and nothing is lost; taken firings may be applied
pub record TakesAll (old : State) (fs : List Firing) (new : State) : Type 0 where
  pub grows : Grows old new
  pub taken : (g : Firing) → Taken new g ↔ (Taken old g ⊎ Contains fs g)

-- those of the list that are not taken
pub record FoundNew (m : State) (fs news : List Firing) : Type 0 where
  pub new : (g : Firing) → Contains news g → Contains fs g × (Taken m g → ⊥)
  pub all : (g : Firing) → Contains fs g → Taken m g ⊎ Contains news g

-- and each of them once
pub record AreNew (m : State) (fs news : List Firing) : Type 0 where
  pub once : Distinct news
  pub found : FoundNew m fs news

-- so many of the list are not taken, each counted once
abbrev pub HasSoManyNew : State → List Firing → ℕ → Type 0
HasSoManyNew m fs count = (news : List Firing) × AreNew m fs news × (length news ≡ count)

-- the firing is put to the list unless it is taken
pub record GainsNew (m : State) (f : Firing) (old new : List Firing) : Type 0 where
  pub kept : (g : Firing) → Contains old g → Contains new g
  pub within : (g : Firing) → Contains new g → Contains old g ⊎ ((f ≡ g) × (Taken m f → ⊥))
  pub there : Taken m f ⊎ Contains new f

-- the new ones of the list fit
abbrev pub Fits : State → List Firing → Type 0
Fits m fs = (news : List Firing) × AreNew m fs news × (count_of m + length news ≤ m.limit)

-- the new ones of the list are more than may be taken
abbrev pub IsTooLong : State → List Firing → Type 0
IsTooLong m fs = (news : List Firing) × AreNew m fs news × (m.limit < count_of m + length news)

-- the first ones of the list are taken
abbrev pub TakesSome : State → List Firing → State → Type 0
TakesSome old fs new = (k : ℕ) × (k ≤ length fs) × TakesAll old (take k fs) new

-- all of the list are taken; or one of them is no firing of the job; or they are too many; or there is
-- no memory, for what an earlier call began or to take them
abbrev pub TakeAllAnswer : State → List Firing → Result (Unit {0}) ListRefusal → State → Type 0
TakeAllAnswer old fs (Ok u) new = AreFirings old.job fs × Fits old fs × TakesAll old fs new × IsSettled new
TakeAllAnswer old fs (Err (NotAFiring place)) new = IsFirstOther old.job fs place × Settles old new
TakeAllAnswer old fs (Err Full) new = AreFirings old.job fs × IsTooLong old fs × Settles old new
TakeAllAnswer old fs (Err NoMemory) new = StaysUnsettled old new ⊎ (AreFirings old.job fs × Fits old fs × TakesSome old fs new)
