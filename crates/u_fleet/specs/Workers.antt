-- What holds of a worker from round to round, and how it ends.
use Rattle.std.specs.Prelude.{◌≡◌, ℕ, ◌≤◌, List, ◌++◌, length, take}
use Rattle.u_name.specs.Context.{IsBetween}
use Rattle.u_base.specs.Firing.{Derivation}
use Rattle.u_check.specs.Jobs.{JobParts}
use Rattle.u_rule.specs.Rule.{own_of}
use Rattle.u_rule.specs.declared.firing.Firing.{Firing}
use Rattle.u_machine.specs.State.{State, IsSettled, NothingReady}
use Rattle.u_machine.specs.declared.answer.Ran.{Ran}
use Rattle.u_machine.specs.declared.answer.Ran.TheVariants as ran
use Rattle.u_replica.specs.CheckpointText.{checkpoint_text}
use Rattle.u_replica.specs.Checkpoints as ranges
use Rattle.u_fleet.specs.Gains.{TookSound, MayBeFull}
use Rattle.u_fleet.specs.Headline.{AreSound, IsWholeList}
use Rattle.u_fleet.specs.declared.plan.FleetPlan.{FleetPlan}
use Rattle.u_fleet.specs.declared.plan.End.{End}
use Rattle.u_fleet.specs.declared.plan.End.TheVariants.{Done, Stopped, Full, NoMemory}
use Rattle.u_fleet.specs.declared.worker.Saved.{Saved}
use Rattle.u_fleet.specs.declared.worker.Saved.TheVariants.{Front, Text}
use Rattle.u_fleet.specs.declared.worker.Life.{Life}

-- the number of one of the plan's workers
abbrev pub IsWorkerOf : FleetPlan → ℕ → Type 0
IsWorkerOf plan number = IsBetween 1 number plan.workers × (plan.workers ≤ 8)

-- the text is a checkpoint of sound firings
pub record IsSoundText (job : JobParts) (bytes : List ℕ) : Type 0 where
  pub firings : List Firing
  pub text : bytes ≡ checkpoint_text job.program.version firings
  pub valid : ranges.AreFirings firings
  pub sound : AreSound job firings

-- what was saved of a machine of the job
abbrev pub IsSaved : JobParts → State → Saved → Type 0
IsSaved job m (Front count) = count ≤ length m.log
IsSaved job m (Text bytes) = IsSoundText job bytes.items

-- What holds of a life, with all that its worker has published: the machine is one of the job and took sound
-- firings; and what is published are the logs of former lives and a front of this one's.
pub record Lives (job : JobParts) (life : Life) (published : List Firing) : Type 0 where
  pub job_is : life.replica.machine.job ≡ job
  pub sound : TookSound life.replica.machine
  pub before : List Firing
  pub run : Derivation (own_of job) before
  pub lists : published ≡ before ++ take life.sent life.replica.machine.log
  pub within : life.sent ≤ length life.replica.machine.log
  pub saved : IsSaved job life.replica.machine life.saved

-- and something was published so
abbrev pub IsLife : JobParts → Life → Type 0
IsLife job life = (published : List Firing) × Lives job life published

-- whatever holds of a life and all that its worker has published, holds of the later one
abbrev pub LivesOn : Life → Life → Type 0
LivesOn old new = (job : JobParts) (published : List Firing) → Lives job old published → Lives job new published

-- why a worker cannot go on, of the machine that it had: there is no room or no memory
abbrev pub MayFail : State → End → Type 0
MayFail m Done = ⊥
MayFail m Stopped = ⊥
MayFail m Full = MayBeFull m
MayFail m NoMemory = Unit {0}

-- how the last run ended: nothing is ready, or all that it may fire were fired, and there was no room for more
abbrev pub LastAnswer : ℕ → State → Ran → Type 0
LastAnswer budget new ran.Quiet = IsSettled new × NothingReady new
LastAnswer budget new ran.Paused = new.limit ≤ budget → MayBeFull new

-- what is answered of the last run: the published list is whole, or more firings are sound than may be taken
abbrev pub LastEnd : JobParts → ℕ → State → List Firing → End → Type 0
LastEnd job budget new published Done = IsWholeList job published
LastEnd job budget new published Stopped = ⊥
LastEnd job budget new published Full = new.limit ≤ budget → MayBeFull new
LastEnd job budget new published NoMemory = ⊥
