-- Which lists of lines are checkpoints, and what is answered for the bytes of one, whole or torn.
use Rattle.std.specs.Prelude.{◌≡◌, ℕ, ◌⊎◌, List, [], take}
use Rattle.std.specs.List.{AllByRecursion}
use Rattle.u_base.specs.Pieces.{PiecesAndRest, pieces, lines}
use Rattle.u_program.specs.declared.program.Version.{Version}
use Rattle.u_program.specs.declared.program.Version.TheVariants as versions
use Rattle.u_rule.specs.declared.firing.Firing.{Firing}
use Rattle.u_rule.specs.FiringReading.{IsFiring}
use Rattle.u_delta.specs.Lines.{IsBadLine, IsTooLong, IsTruncated}
use Rattle.u_replica.specs.declared.checkpoint.Ending.{Ending}
use Rattle.u_replica.specs.declared.checkpoint.Ending.TheVariants.{Whole, Torn}
use Rattle.u_replica.specs.declared.checkpoint.CheckpointError.{CheckpointError}
use Rattle.u_replica.specs.declared.checkpoint.CheckpointError.TheVariants.{BadLine, TooLong, NoMemory}
use Rattle.u_replica.specs.CheckpointText.{begun_lines, checkpoint_lines, checkpoint_text}

-- the parts of each firing are in their ranges
abbrev pub AreFirings : List Firing → Type 0
AreFirings = AllByRecursion IsFiring

-- A job of this version reads checkpoints with that head: one of version 2 reads both, one of version 1
-- its own alone.
abbrev pub MayRead : Version → Version → Type 0
MayRead versions.One head = head ≡ versions.One
MayRead versions.Two head = Unit {0}

-- the lines are those of the checkpoint of some firings, with a head that a job of the version reads
pub record IsCheckpointLines (version : Version) (ls : List (List ℕ)) : Type 0 where
  pub head : Version
  pub may : MayRead version head
  pub firings : List Firing
  pub valid : AreFirings firings
  pub there : checkpoint_lines head firings ≡ ls

-- the lines are a head that is read, and one line for each of these firings
pub record AreBegun (version : Version) (ls : List (List ℕ)) (fs : List Firing) : Type 0 where
  pub head : Version
  pub may : MayRead version head
  pub lines : ls ≡ begun_lines head fs

-- the lines say these firings: the first line and one for each; or there is no line and no firing
abbrev pub SayFirings : Version → List (List ℕ) → List Firing → Type 0
SayFirings version ls fs = AreBegun version ls fs ⊎ ((ls ≡ []) × (fs ≡ []))

-- the bytes are the text of the checkpoint of these firings
pub record IsWholeOf (version : Version) (bytes : List ℕ) (fs : List Firing) : Type 0 where
  pub head : Version
  pub may : MayRead version head
  pub valid : AreFirings fs
  pub text : bytes ≡ checkpoint_text head fs

-- the lines with a newline say these firings, no line is too long, and the checkpoint goes on
pub record IsTornIn (version : Version) (text : PiecesAndRest) (fs : List Firing) : Type 0 where
  pub valid : AreFirings fs
  pub torn : IsTruncated (IsCheckpointLines version) text
  pub lines : SayFirings version text.0 fs

abbrev pub IsTornOf : Version → List ℕ → List Firing → Type 0
IsTornOf version bytes fs = IsTornIn version (pieces 10 bytes) fs

-- what a job of the version reads of the bytes
abbrev pub IsCheckpointOf : Version → List ℕ → Ending → List Firing → Type 0
IsCheckpointOf version bytes Whole fs = IsWholeOf version bytes fs
IsCheckpointOf version bytes Torn fs = IsTornOf version bytes fs

-- these are the first ones of these firings, and the bytes' lines with a newline say them
pub record IsFrontOf (version : Version) (bytes : List ℕ) (read fs : List Firing) : Type 0 where
  pub count : ℕ
  pub first : read ≡ take count fs
  pub said : SayFirings version (lines bytes) read

-- why the lines, and what stands behind them, are no checkpoint that a job of the version reads
abbrev pub IsCheckpointErrorIn : Version → PiecesAndRest → CheckpointError → Type 0
IsCheckpointErrorIn version text (BadLine n) = IsBadLine (IsCheckpointLines version) text n
IsCheckpointErrorIn version text (TooLong n) = IsTooLong (IsCheckpointLines version) text n
IsCheckpointErrorIn version text NoMemory = Unit {0}

-- why the bytes are none
abbrev pub IsCheckpointErrorOf : Version → List ℕ → CheckpointError → Type 0
IsCheckpointErrorOf version bytes error = IsCheckpointErrorIn version (pieces 10 bytes) error
