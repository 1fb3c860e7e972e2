-- The lines of a checkpoint whose firings a machine fires by itself, and what is read behind them.
use Rattle.std.specs.Prelude.{◌≡◌, ◌<◌, ◌^◌, List, ℕ, ◌++◌, Contains, Result, Ok, Err, MatchResult, length, map}
use Rattle.std.specs.List.{AllByRecursion}
use Rattle.u_base.specs.Pieces.{PiecesAndRest}
use Rattle.u_program.specs.declared.program.Version.{Version}
use Rattle.u_rule.specs.declared.firing.Firing.{Firing}
use Rattle.u_rule.specs.FiringReading.{IsFiringOf}
use Rattle.u_rule.specs.FiringText.{firing_text}
use Rattle.u_delta.specs.Lines.{IsShort, IsLineAhead, lines_behind}
use Rattle.u_machine.specs.State.{State, IsPick, IsSettled}
use Rattle.u_machine.specs.Calls.{Takes}
use Rattle.u_replica.specs.declared.checkpoint.Checkpoint.{Checkpoint}
use Rattle.u_replica.specs.declared.checkpoint.CheckpointError.{CheckpointError}
use Rattle.u_replica.specs.declared.checkpoint_reading.ReadBehind.{ReadBehind}
use Rattle.u_replica.specs.Checkpoints.{AreFirings, IsCheckpointErrorIn}
use Rattle.u_replica.specs.CheckpointReading.{IsCheckpointIn}
use Rattle.u_replica.specs.Takings.{TookFront}

-- the line at the front is that of the firing which the machine fires next, and it was fired
pub record FiresLine (old : State) (bytes rest : List ℕ) (new : State) : Type 0 where
  pub firing : Firing
  pub line : List ℕ
  pub ahead : IsLineAhead bytes line rest
  pub said : IsFiringOf line firing
  pub picked : IsPick old 0 firing
  pub takes : Takes old firing new
  pub logged : Contains new.log firing
  pub settled : IsSettled new

-- the bytes are these lines, each short, and the rest
pub record AreLines (bytes rest : List ℕ) (ls : List (List ℕ)) : Type 0 where
  pub short : AllByRecursion IsShort ls
  pub text : (before : List (List ℕ)) → lines_behind before bytes ≡ lines_behind (before ++ ls) rest

-- the bytes are the lines of these firings, and the rest
pub record AreFired (bytes rest : List ℕ) (fs : List Firing) : Type 0 where
  pub valid : AreFirings fs
  pub lines : AreLines bytes rest (map firing_text fs)

-- what was read, with these firings in front of those that were read
abbrev pub behind : List Firing → Result Checkpoint CheckpointError → Result Checkpoint CheckpointError
behind fs (Ok c) = Ok (record c { firings = fs ++ c.firings })
behind fs (Err e) = Err e

-- What was read of the text behind as many firings as it says; the machine took those before them, and
-- nothing else than what the text has.
pub record IsReadBehind (old : State) (version : Version) (text : PiecesAndRest) (r : ReadBehind) (new : State) : Type 0 where
  pub before : List Firing
  pub counted : r.fired ≡ length before
  pub few : r.fired < 2 ^ 62
  pub read : IsCheckpointIn version text r.checkpoint.ending (before ++ r.checkpoint.firings)
  pub took : TookFront old (before ++ r.checkpoint.firings) (length before) new

-- that, or why the text is no checkpoint
abbrev pub ReadsBehind : State → Version → PiecesAndRest → Result ReadBehind CheckpointError → State → Type 0
ReadsBehind old version text result new =
    MatchResult result (λ r. IsReadBehind old version text r new) (λ error. IsCheckpointErrorIn version text error)
