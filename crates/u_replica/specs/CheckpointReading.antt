-- What the steps of reading a checkpoint answer.
use Rattle.std.specs.Prelude.{◌≡◌, ℕ, List, [], Result, MatchResult}
use Rattle.std.specs.List.{AllByRecursion}
use Rattle.u_base.specs.Pieces.{PiecesAndRest}
use Rattle.u_program.specs.declared.program.Version.{Version}
use Rattle.u_rule.specs.declared.firing.Firing.{Firing}
use Rattle.u_rule.specs.FiringText.{firing_text}
use Rattle.u_rule.specs.FiringReading.{IsFiring}
use Rattle.u_delta.specs.Lines.{IsShort}
use Rattle.u_replica.specs.declared.checkpoint.Ending.{Ending}
use Rattle.u_replica.specs.declared.checkpoint.Ending.TheVariants.{Whole, Torn}
use Rattle.u_replica.specs.declared.checkpoint.Checkpoint.{Checkpoint}
use Rattle.u_replica.specs.declared.checkpoint.CheckpointError.{CheckpointError}
use Rattle.u_replica.specs.declared.checkpoint.CheckpointError.TheVariants.{BadLine, TooLong, NoMemory}
use Rattle.u_replica.specs.CheckpointText.{begun_lines, checkpoint_lines}
use Rattle.u_replica.specs.Checkpoints.{AreFirings, MayRead, IsTornIn, IsCheckpointErrorIn}

-- firings of which the lines were read, behind this head
pub record AreRead (head : Version) (fs : List Firing) : Type 0 where
  pub valid : AreFirings fs
  pub short : AllByRecursion IsShort (begun_lines head fs)

-- the line is no firing's, or a growth was refused
abbrev pub IsNoFiring : List ℕ → ℕ → CheckpointError → Type 0
IsNoFiring line number (BadLine n) = (n ≡ number) × ((f : Firing) → IsFiring f → line ≡ firing_text f → ⊥)
IsNoFiring line number (TooLong n) = ⊥
IsNoFiring line number NoMemory = Unit {0}

-- the lines of the text are those of these firings' checkpoint, and nothing stands behind them
pub record IsWholeIn (version : Version) (text : PiecesAndRest) (fs : List Firing) : Type 0 where
  pub head : Version
  pub may : MayRead version head
  pub valid : AreFirings fs
  pub lines : text ≡ (checkpoint_lines head fs, [])

abbrev pub IsCheckpointIn : Version → PiecesAndRest → Ending → List Firing → Type 0
IsCheckpointIn version text Whole fs = IsWholeIn version text fs
IsCheckpointIn version text Torn fs = IsTornIn version text fs

-- what is answered for a text that was cut into its lines
abbrev pub IsAnswer : Version → PiecesAndRest → Result Checkpoint CheckpointError → Type 0
IsAnswer version text result =
    MatchResult result (λ c. IsCheckpointIn version text c.ending c.firings)
    (λ error. IsCheckpointErrorIn version text error)

-- what every job answers that reads this head
abbrev pub IsAnswerBehind : Version → PiecesAndRest → Result Checkpoint CheckpointError → Type 0
IsAnswerBehind head text result = (version : Version) → MayRead version head → IsAnswer version text result
