-- What `restore` tells of a job and the bytes of a checkpoint, with so many firings at most after those of the
-- checkpoint.
use Rattle.std.specs.Prelude.{◌≡◌, ℕ, ◌≤◌, ◌<◌, ◌↔◌, ◌⊎◌, List, ◌++◌, Contains, codes, length}
use Rattle.u_check.specs.Jobs.{JobParts}
use Rattle.u_base.specs.Firing.{Cl, EachPlace, IsNextFrom, Same, Whole}
use Rattle.u_rule.specs.Rule.{own_of}
use Rattle.u_rule.specs.declared.firing.Firing.{Firing}
use Rattle.u_machine.specs.State.{State, Taken, IsMachine, IsSettled, IsReady, NothingReady, count_of}
use Rattle.u_machine.specs.Calls.{firing_le}
use Rattle.u_machine.specs.declared.answer.Refusal.{Refusal}
use Rattle.u_machine.specs.declared.answer.Refusal.TheVariants as refusals
use Rattle.u_machine.specs.Taking.{AreFirings, IsFirstOther, IsTooLong}
use Rattle.u_history.specs.declared.report.Ending.{Ending}
use Rattle.u_history.specs.declared.report.Ending.TheVariants as states
use Rattle.u_replica.specs.Checkpoints.{IsCheckpointOf, IsCheckpointErrorOf}
use Rattle.u_replica.specs.Restoring.{blank, WasRead}
use Rattle.u_replica.specs.declared.checkpoint.Ending.{Ending as CheckpointEnding}
use Rattle.u_replica.specs.declared.checkpoint.Ending.TheVariants as endings
use Rattle.u_replica.specs.declared.checkpoint.CheckpointError.TheVariants as errors
use Rattle.u_replica.specs.declared.answer.RestoreError.{RestoreError}
use Rattle.u_replica.specs.declared.answer.RestoreError.TheVariants as restores
use Rattle.u_commands.specs.Runs.{ReportsMachine}
use Rattle.u_commands.specs.declared.command_error.CommandError.{CommandError}
use Rattle.u_commands.specs.declared.command_error.CommandError.TheVariants as faults

-- how many firings a restored replica takes at most
unfoldable pub most_taken : ℕ
most_taken = 1000000

-- what a checkpoint has, and what was fired since
abbrev pub SavedOrFired : List Firing → List Firing → Firing → Type 0
SavedOrFired fs gs f = Contains fs f ⊎ Contains gs f

-- A machine of the job took fs, and then fired gs one after another: each of gs the least that is enabled over
-- the closure of fs and those before it, and new. It took nothing else, its applied firings are a run of the
-- job, and its history is the closure of what it took.
pub record GoesOn (job : JobParts) (fs gs : List Firing) (m : State) : Type 0 where
  pub of : m.job ≡ job
  pub limit : m.limit ≡ most_taken
  pub each : EachPlace (IsNextFrom (own_of job) firing_le (Contains fs)) gs
  pub taken : (f : Firing) → Taken m f ↔ SavedOrFired fs gs f
  pub is : IsMachine m
  pub settled : IsSettled m
  pub history : Same (Contains m.history) (Cl (own_of job) (SavedOrFired fs gs))

-- The report and the status of a machine that took fs and then fired so many at most.
pub record ReportsOn (job : JobParts) (firings : ℕ) (fs : List Firing) (report : List ℕ) (status : ℕ) : Type 0 where
  pub state : Ending
  pub gs : List Firing
  pub machine : State
  pub goes : GoesOn job fs gs machine
  pub few : length gs ≤ firings
  pub reported : ReportsMachine machine state report status
  -- it says quiet exactly where nothing is ready, and then the history is the whole one
  pub quiet : (state ≡ states.Quiet) ↔ NothingReady machine
  pub whole : state ≡ states.Quiet → Same (Contains machine.history) (Whole (own_of job))
  -- it says paused only where it fired as often as it may
  pub many : state ≡ states.Paused → length gs ≡ firings

-- a machine that took fs and then fired fewer than it may: something is ready, and there is no room for it
pub record FillsUp (job : JobParts) (firings : ℕ) (fs : List Firing) : Type 0 where
  pub gs : List Firing
  pub machine : State
  pub goes : GoesOn job fs gs machine
  pub few : length gs < firings
  pub ready : (f : Firing) × IsReady machine f
  pub full : count_of machine ≡ most_taken

-- `checkpoint whole` or `checkpoint torn`
unfoldable pub ending_line : CheckpointEnding → List ℕ
ending_line endings.Whole = codes "checkpoint whole\n"
ending_line endings.Torn = codes "checkpoint torn\n"

-- what is written for a checkpoint: how it ended, and the report of what goes on from the firings of its
-- complete lines, all of which are the job's
pub record RestoresJob (job : JobParts) (firings : ℕ) (checkpoint written : List ℕ) (status : ℕ) : Type 0 where
  pub ending : CheckpointEnding
  pub fs : List Firing
  pub read : IsCheckpointOf job.program.version checkpoint ending fs
  pub of_job : AreFirings job fs
  pub report : List ℕ
  pub on : ReportsOn job firings fs report status
  pub is : written ≡ ending_line ending ++ report

-- firings of the job that are more than a replica takes, or that it goes on from until it is full
abbrev pub HasNoRoom : JobParts → ℕ → List Firing → Type 0
HasNoRoom job firings fs = AreFirings job fs × (IsTooLong (blank job most_taken) fs ⊎ FillsUp job firings fs)

-- why no report comes of a job's checkpoint: its first line that is not allowed, or is too long; or its
-- first firing that is none of the job; or there is no room
abbrev pub CheckpointRefused : JobParts → ℕ → List ℕ → CommandError → Type 0
CheckpointRefused job firings checkpoint (faults.CheckpointLineNotAllowed n) = IsCheckpointErrorOf job.program.version checkpoint (errors.BadLine n)
CheckpointRefused job firings checkpoint (faults.CheckpointLineTooLong n) = IsCheckpointErrorOf job.program.version checkpoint (errors.TooLong n)
CheckpointRefused job firings checkpoint (faults.OtherFiring place) = WasRead job.program.version checkpoint (λ fs. IsFirstOther job fs place)
CheckpointRefused job firings checkpoint faults.Full = WasRead job.program.version checkpoint (λ fs. HasNoRoom job firings fs)
CheckpointRefused job firings checkpoint faults.NoMemory = Unit {0}
CheckpointRefused job firings checkpoint fault = ⊥

-- the fault that is told of a checkpoint from which no replica was restored
abbrev pub fault_in : RestoreError → CommandError
fault_in (restores.BadLine n) = faults.CheckpointLineNotAllowed n
fault_in (restores.TooLong n) = faults.CheckpointLineTooLong n
fault_in (restores.NotAFiring place) = faults.OtherFiring place
fault_in restores.Full = faults.Full
fault_in restores.NoMemory = faults.NoMemory

-- the fault that is told of a run that was refused
abbrev pub fault_of : Refusal → CommandError
fault_of refusals.Full = faults.Full
fault_of refusals.NoMemory = faults.NoMemory
