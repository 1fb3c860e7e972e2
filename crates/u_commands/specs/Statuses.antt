-- Exit statuses.
use Rattle.std.specs.Prelude.{ℕ, Option, Some, None}
use Rattle.u_source.specs.declared.place.Position.{Position}
use Rattle.u_source.specs.declared.source_error.SourceError.TheVariants as source_errors
use Rattle.u_scope.specs.declared.check_error.CheckError.TheVariants as check_errors
use Rattle.u_scope.specs.declared.kind_error.KindError.TheVariants as kind_errors
use Rattle.u_compile.specs.declared.compile_error.CompileError.{CompileError}
use Rattle.u_compile.specs.declared.compile_error.CompileError.TheVariants as errors
use Rattle.u_history.specs.declared.report.Ending.{Ending}
use Rattle.u_history.specs.declared.report.Ending.TheVariants.{Quiet, Paused}
use Rattle.u_history.specs.Verdicts.{Judgement, says_clashed, says_faulted, says_answer, says_none}
use Rattle.u_commands.specs.declared.command_error.CommandError.{CommandError}
use Rattle.u_commands.specs.declared.command_error.CommandError.TheVariants as faults

-- the place that shows why a source is refused; there is none if there was no memory
abbrev pub place_of : CompileError → Option Position
place_of (errors.Source (source_errors.Refused place problem)) = Some place
place_of (errors.Source source_errors.NoMemory) = None
place_of (errors.Check (check_errors.Refused place problem)) = Some place
place_of (errors.Check check_errors.NoMemory) = None
place_of (errors.Kinds (kind_errors.Refused place problem)) = Some place
place_of (errors.Kinds kind_errors.NoMemory) = None
place_of (errors.Refused place problem) = Some place
place_of errors.NoMemory = None

-- 2 if a source is refused, 5 if there was no memory
abbrev pub status_at : Option Position → ℕ
status_at (Some place) = 2
status_at None = 5

-- 2 if a text is refused, 3 if an entry is not held or a port has fewer than two values, 4 if there is no room for
-- more firings, 5 if the surroundings fail
abbrev pub status_of_error : CommandError → ℕ
status_of_error (faults.LineNotAllowed n) = 2
status_of_error (faults.TooMany n) = 2
status_of_error faults.CutShort = 2
status_of_error (faults.Rule b) = 2
status_of_error (faults.Source e) = status_at (place_of e)
status_of_error faults.ArgumentNotAllowed = 2
status_of_error faults.InputTooLong = 2
status_of_error (faults.CheckpointLineNotAllowed n) = 2
status_of_error (faults.CheckpointLineTooLong n) = 2
status_of_error (faults.OtherFiring n) = 2
status_of_error (faults.ScriptLineNotAllowed n) = 2
status_of_error (faults.ScriptLineImpossible n) = 2
status_of_error (faults.EntryNotAllowed n) = 2
status_of_error faults.EntryNotHeld = 3
status_of_error (faults.NameNotAllowed n) = 2
status_of_error faults.NameTooDeep = 2
status_of_error faults.PortNotClashed = 3
status_of_error faults.Full = 4
status_of_error faults.NoMemory = 5
status_of_error faults.NoThread = 5
status_of_error faults.NoReader = 5
status_of_error faults.NotReadable = 5
status_of_error faults.NotWritten = 5

-- 4 where more is ready; else 0 for an answer, and 3 for another verdict
abbrev pub status_of : Ending → Judgement → ℕ
status_of Paused j = 4
status_of Quiet (says_answer v) = 0
status_of Quiet says_clashed = 3
status_of Quiet says_faulted = 3
status_of Quiet says_none = 3
