-- What restoring a replica from the bytes of a checkpoint answers.
use Rattle.std.specs.Prelude.{◌≡◌, ℕ, ◌<◌, ◌+◌, ◌^◌, ◌⊎◌, List, [], ◌∷◌, Result, MatchResult, Contains, length, take}
use Rattle.u_base.specs.Pieces.{pieces}
use Rattle.u_base.specs.Firing.{Same}
use Rattle.u_program.specs.declared.program.Version.{Version}
use Rattle.u_check.specs.Jobs.{JobParts}
use Rattle.u_rule.specs.Rule.{own_of}
use Rattle.u_rule.specs.declared.firing.Firing.{Firing}
use Rattle.u_delta.specs.Lines as texts
use Rattle.u_machine.specs.State.{State, state, Taken, IsMachine, IsSettled, count_of}
use Rattle.u_machine.specs.Taking.{AreFirings, IsFirstOther, IsTooLong, TakesAll}
use Rattle.u_machine.specs.declared.answer.ListRefusal.{ListRefusal}
use Rattle.u_machine.specs.declared.answer.ListRefusal.TheVariants as lists
use Rattle.u_replica.specs.declared.checkpoint.Ending.{Ending}
use Rattle.u_replica.specs.declared.checkpoint.Ending.TheVariants.{Whole, Torn}
use Rattle.u_replica.specs.declared.answer.RestoreError.{RestoreError}
use Rattle.u_replica.specs.declared.answer.RestoreError.TheVariants.{BadLine, TooLong, NotAFiring, Full, NoMemory}
use Rattle.u_replica.specs.declared.checkpoint.CheckpointError.{CheckpointError}
use Rattle.u_replica.specs.declared.checkpoint.CheckpointError.TheVariants as checkpoints
use Rattle.u_replica.specs.Marking.{fresh_marks}
use Rattle.u_replica.specs.Merging.{all_of}
use Rattle.u_replica.specs.CheckpointText.{checkpoint_text}
use Rattle.u_replica.specs.Checkpoints as ranges
use Rattle.u_replica.specs.Checkpoints.{MayRead, IsCheckpointLines, IsCheckpointOf, IsFrontOf}
use Rattle.u_replica.specs.ReplicaState.{ReplicaState, replica}

-- a machine of the job that has taken nothing
abbrev pub blank : JobParts → ℕ → State
blank job limit = state job limit [] [] ((own_of job).start ∷ [])

-- a job of the version read some firings of the bytes, which ended so
pub record WasRead (version : Version) (bytes : List ℕ) (P : List Firing → Type 0) : Type 0 where
  pub firings : List Firing
  pub ending : Ending
  pub read : IsCheckpointOf version bytes ending firings
  pub so : P firings

-- the replica took the firings that were read, all of them firings of the job, and nothing else; it knows
-- nothing of its peers
pub record IsRestored (job : JobParts) (limit number life : ℕ) (bytes : List ℕ) (ending : Ending) (new : ReplicaState) : Type 0 where
  pub firings : List Firing
  pub read : IsCheckpointOf job.program.version bytes ending firings
  pub of_job : AreFirings job firings
  pub takes : TakesAll (blank job limit) firings new.machine
  pub settled : IsSettled new.machine
  pub beside : new ≡ replica new.machine number life fresh_marks

-- why there is no replica: the first line that is not allowed, or is too long; or the checkpoint was
-- read, and has what is no firing of the job, or more firings than may be taken; or there is no memory
abbrev pub IsRestoreError : JobParts → ℕ → List ℕ → RestoreError → Type 0
IsRestoreError job limit bytes (BadLine n) = texts.IsBadLine (IsCheckpointLines job.program.version) (pieces 10 bytes) n
IsRestoreError job limit bytes (TooLong n) = texts.IsTooLong (IsCheckpointLines job.program.version) (pieces 10 bytes) n
IsRestoreError job limit bytes (NotAFiring place) = WasRead job.program.version bytes (λ fs. IsFirstOther job fs place)
IsRestoreError job limit bytes Full = WasRead job.program.version bytes (λ fs. AreFirings job fs × IsTooLong (blank job limit) fs)
IsRestoreError job limit bytes NoMemory = Unit {0}

-- the replica and how the checkpoint ended; or why there is none
abbrev pub RestoreAnswer : JobParts → (limit number life : ℕ) → List ℕ → Result (ReplicaState × Ending) RestoreError → Type 0
RestoreAnswer job limit number life bytes result =
    MatchResult result (λ p. IsRestored job limit number life bytes p.1 p.0) (λ error. IsRestoreError job limit bytes error)

-- a checkpoint's error, and a refused list's, as those of restoring
abbrev pub error_of_reading : CheckpointError → RestoreError
error_of_reading (checkpoints.BadLine n) = BadLine n
error_of_reading (checkpoints.TooLong n) = TooLong n
error_of_reading checkpoints.NoMemory = NoMemory

abbrev pub error_of_taking : ListRefusal → RestoreError
error_of_taking (lists.NotAFiring place) = NotAFiring place
error_of_taking lists.Full = Full
error_of_taking lists.NoMemory = NoMemory

-- the refusal of a list behind so many firings that were taken before
abbrev pub refusal_behind : ℕ → ListRefusal → ListRefusal
refusal_behind n (lists.NotAFiring place) = lists.NotAFiring (n + place)
refusal_behind n lists.Full = lists.Full
refusal_behind n lists.NoMemory = lists.NoMemory

-- its place fits in 64 bits
abbrev pub FitsBehind : ℕ → ListRefusal → Type 0
FitsBehind n (lists.NotAFiring place) = n + place < 2 ^ 64
FitsBehind n lists.Full = Unit {0}
FitsBehind n lists.NoMemory = Unit {0}

-- firings of the job, whose parts are in their ranges
abbrev pub MayWrite : JobParts → List Firing → Type 0
MayWrite job fs = ranges.AreFirings fs × AreFirings job fs

-- there is no memory, or the firings are more than may be taken
abbrev pub IsNoRoomFor : JobParts → ℕ → List Firing → RestoreError → Type 0
IsNoRoomFor job limit fs error = (error ≡ NoMemory) ⊎ ((error ≡ Full) × IsTooLong (blank job limit) fs)

-- for the text that was written of such firings, with either head that the job reads, the ending is whole,
-- and the replica took them and nothing else
abbrev pub RestoresWritten : JobParts → ℕ → List ℕ → Result (ReplicaState × Ending) RestoreError → Type 0
RestoresWritten job limit bytes result =
    (head : Version) (fs : List Firing) → MayRead job.program.version head → MayWrite job fs
    → bytes ≡ checkpoint_text head fs
    → MatchResult result (λ p. (p.1 ≡ Whole) × TakesAll (blank job limit) fs p.0.machine) (IsNoRoomFor job limit fs)

-- there is no memory, or the saved machine took more than the limit
abbrev pub IsNoRoom : State → ℕ → RestoreError → Type 0
IsNoRoom saved limit error = (error ≡ NoMemory) ⊎ ((error ≡ Full) × (limit < count_of saved))

-- the replica took what the saved machine took
abbrev pub TookAll : State → ReplicaState → Type 0
TookAll saved new = Same (Taken new.machine) (Taken saved)

-- the replica took the first ones of what the saved machine took: those whose lines are complete
pub record TookFront (version : Version) (saved : State) (bytes : List ℕ) (new : ReplicaState) : Type 0 where
  pub firings : List Firing
  pub front : IsFrontOf version bytes firings (all_of saved)
  pub taken : Same (Taken new.machine) (Contains firings)

-- a machine of the job, whose firings are in their ranges
abbrev pub MaySave : JobParts → State → Type 0
MaySave job saved = IsMachine saved × (saved.job ≡ job) × ranges.AreFirings (all_of saved)

-- for the text that was saved of a machine, the ending is whole and the replica took what that machine took
abbrev pub RestoresWhole : JobParts → ℕ → List ℕ → Result (ReplicaState × Ending) RestoreError → Type 0
RestoresWhole job limit bytes result =
    (saved : State) → MaySave job saved → bytes ≡ checkpoint_text job.program.version (all_of saved)
    → MatchResult result (λ p. (p.1 ≡ Whole) × TookAll saved p.0) (IsNoRoom saved limit)

-- for a front of such a text, with either head that the job reads, the ending is torn, and the replica took
-- the first ones
abbrev pub RestoresFront : JobParts → ℕ → List ℕ → Result (ReplicaState × Ending) RestoreError → Type 0
RestoresFront job limit bytes result =
    (head : Version) (saved : State) (k : ℕ) → MayRead job.program.version head → MaySave job saved
    → k < length (checkpoint_text head (all_of saved))
    → bytes ≡ take k (checkpoint_text head (all_of saved))
    → MatchResult result (λ p. (p.1 ≡ Torn) × TookFront job.program.version saved bytes p.0) (IsNoRoom saved limit)
