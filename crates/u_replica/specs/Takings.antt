-- Lists of firings that a machine takes in pieces.
use Rattle.std.specs.Prelude.{ℕ, ◌≤◌, List, Contains, length, take}
use Rattle.u_rule.specs.declared.firing.Firing.{Firing}
use Rattle.u_machine.specs.State.{State, IsSettled}
use Rattle.u_machine.specs.Taking.{AreFirings, IsFirstOther, IsTooLong, TakesAll}
use Rattle.u_machine.specs.declared.answer.ListRefusal.{ListRefusal}
use Rattle.u_machine.specs.declared.answer.ListRefusal.TheVariants.{NotAFiring, Full, NoMemory}

-- so many of the list, from its front, are firings of the job and were taken, and nothing that the list has not
pub record TookFront (old : State) (fs : List Firing) (count : ℕ) (new : State) : Type 0 where
  pub some : List Firing
  pub takes : TakesAll old some new
  pub within : (f : Firing) → Contains some f → Contains fs f
  pub front : (f : Firing) → Contains (take count fs) f → Contains some f
  pub firings : AreFirings old.job (take count fs)
  pub few : count ≤ length fs

-- all of the list are firings of the job and were taken, and nothing else
pub record IsTaken (old : State) (fs : List Firing) (new : State) : Type 0 where
  pub firings : AreFirings old.job fs
  pub takes : TakesAll old fs new
  pub settled : IsSettled new

-- why not all of the list are taken: the first that is no firing of the job; or they are too many; or there is
-- no memory
abbrev pub IsUntaken : State → List Firing → ListRefusal → Type 0
IsUntaken old fs (NotAFiring place) = IsFirstOther old.job fs place
IsUntaken old fs Full = AreFirings old.job fs × IsTooLong old fs
IsUntaken old fs NoMemory = Unit {0}
