-- What `run` tells of a job, and the job of two texts.
use Rattle.std.specs.Prelude.{◌≡◌, ℕ, List, [], ◌++◌, ◌⊎◌, Ok, Err, Contains, length, ℤ}
use Rattle.u_program.specs.Parts.{ProgramParts}
use Rattle.u_program.specs.Answer.{IsTextOf}
use Rattle.u_program.specs.FirstBad.{IsBadLine, IsTooMany, IsTruncated}
use Rattle.u_check.specs.Rules.{IsChecked}
use Rattle.u_check.specs.Jobs.{JobParts}
use Rattle.u_base.specs.Firing.{Held, Whole, Same, Enabled, Plain}
use Rattle.u_value.specs.declared.value.Value.{Value}
use Rattle.u_rule.specs.Rule.{own_of}
use Rattle.u_rule.specs.declared.parts.Fault.{Fault}
use Rattle.u_rule.specs.declared.entry.Entry.{Entry}
use Rattle.u_rule.specs.declared.firing.Firing.{Firing}
use Rattle.u_machine.specs.State.{State, IsMachine}
use Rattle.u_machine.specs.Calls.{firing_le, Runs, RunAnswer, IsFresh}
use Rattle.u_machine.specs.declared.answer.Ran.{Ran}
use Rattle.u_machine.specs.declared.answer.Ran.TheVariants as ran
use Rattle.u_machine.specs.declared.answer.Refusal.TheVariants as refusals
use Rattle.u_determinate.specs.Strict.{IsStrict}
use Rattle.u_determinate.specs.Determinate.{IsDeterminate}
use Rattle.u_determinate.specs.Theorem.{OnlyWritesClash}
use Rattle.u_history.specs.declared.report.Ending.{Ending}
use Rattle.u_history.specs.declared.report.Ending.TheVariants as states
use Rattle.u_history.specs.Outcomes.{IsOutcome, CellPairs, PortValues}
use Rattle.u_history.specs.Verdicts.{judged}
use Rattle.u_history.specs.Report.{IsReportOf}
use Rattle.u_commands.specs.Arguments.{IsArgumentOf}
use Rattle.u_commands.specs.Statuses.{status_of}
use Rattle.u_commands.specs.Inputs.{BreaksRule}
use Rattle.u_commands.specs.declared.command_error.CommandError.{CommandError}
use Rattle.u_commands.specs.declared.command_error.CommandError.TheVariants as faults

-- The bytes are the text of the job's program, which breaks no rule, and the word gives its argument. Nothing is
-- known beforehand of the outside.
pub record IsJobOf (bytes word : List ℕ) (job : JobParts) : Type 0 where
  pub text : IsTextOf bytes job.program
  pub checked : IsChecked job.program.blocks
  pub argument : IsArgumentOf word job.argument
  pub table : job.table ≡ []

-- The status is that of the verdict on what is held.
pub record IsStatusOf (H : Entry → Type 0) (state : Ending) (status : ℕ) : Type 0 where
  pub answers : List Value
  pub cells : List CellPairs
  pub ports : List PortValues
  pub faults : List Fault
  pub outcome : IsOutcome H answers cells ports faults
  pub is : status ≡ status_of state (judged answers cells ports faults)

-- the state that a report names
abbrev pub ending_of : Ran → Ending
ending_of ran.Quiet = states.Quiet
ending_of ran.Paused = states.Paused

-- The report and the status of a machine in that state: those of its history, with the counts of its
-- applied and of its parked firings.
pub record ReportsMachine (m : State) (state : Ending) (report : List ℕ) (status : ℕ) : Type 0 where
  pub reported : IsReportOf (Contains m.history) state (length m.log) (length m.parked) report
  pub ended : IsStatusOf (Contains m.history) state status

-- fs is the plain run of the job: each firing the least that is enabled and new, so many at most
pub record RunsTo (job : JobParts) (firings : ℕ) (state : Ending) (fs : List Firing) : Type 0 where
  pub plain : Plain (own_of job) firing_le firings fs
  -- where it is quiet, fs holds the whole history, and has every firing that is enabled over it
  pub whole : state ≡ states.Quiet → Same (Held (own_of job) fs) (Whole (own_of job))
  pub all : state ≡ states.Quiet → (f : Firing) → Enabled (own_of job) (Held (own_of job) fs) f → Contains fs f
  -- where it is paused, it fired as often as it may, and more is enabled
  pub many : state ≡ states.Paused → length fs ≡ firings
  pub more : state ≡ states.Paused → (f : Firing) × Enabled (own_of job) (Held (own_of job) fs) f × (Contains fs f → ⊥)

-- it had taken nothing, and has fired so often since
abbrev pub HasFired : ℕ → State → Type 0
HasFired fired m = (old : State) × IsFresh old × (gs : List Firing) × Runs old gs m × (length gs ≡ fired)

-- A machine of the job that had taken nothing, once it ran: its log is the plain run, nothing is parked, and its
-- history is what the log holds.
pub record RanTo (job : JobParts) (firings : ℕ) (state : Ending) (m : State) : Type 0 where
  pub of : m.job ≡ job
  pub parked : m.parked ≡ []
  pub run : RunsTo job firings state m.log
  pub held : Same (Contains m.history) (Held (own_of job) m.log)
  pub fired : state ≡ states.Paused → HasFired firings m

-- if the program is strict or determinate, fs holds two values at a port, or two answers, only with two writes of one cell
abbrev pub ClashesByWrites : JobParts → List Firing → Type 0
ClashesByWrites job fs =
    (IsStrict job.program.blocks ⊎ IsDeterminate job.program.blocks) → OnlyWritesClash (Held (own_of job) fs)

-- The report and the status of such a run: those of what fs holds; no firing is parked.
pub record IsReportedRun (job : JobParts) (firings : ℕ) (state : Ending) (fs : List Firing) (report : List ℕ) (status : ℕ) : Type 0 where
  pub run : RunsTo job firings state fs
  pub clashes : ClashesByWrites job fs
  pub reported : IsReportOf (Held (own_of job) fs) state (length fs) 0 report
  pub ended : IsStatusOf (Held (own_of job) fs) state status

-- Some bytes, and behind them the report of a machine that fires what it can, so many at most; and its status.
pub record RunsBehind (front : List ℕ) (old : State) (firings : ℕ) (written : List ℕ) (status : ℕ) : Type 0 where
  pub end : Ran
  pub machine : State
  pub is_machine : IsMachine machine
  pub ran : RunAnswer old firings (Ok end) machine
  pub report : List ℕ
  pub reported : ReportsMachine machine (ending_of end) report status
  pub is : written ≡ front ++ report

-- it fires until it is full, or there is no memory
abbrev pub RunRefused : State → ℕ → CommandError → Type 0
RunRefused old firings faults.Full = (new : State) × IsMachine new × RunAnswer old firings (Err refusals.Full) new
RunRefused old firings faults.NoMemory = Unit {0}
RunRefused old firings fault = ⊥

-- some run of the job, with its report and its status
pub record ReportsRunOfJob (job : JobParts) (firings : ℕ) (report : List ℕ) (status : ℕ) : Type 0 where
  pub state : Ending
  pub fs : List Firing
  pub run : IsReportedRun job firings state fs report status

-- the program breaks no rule, and the word gives no argument
pub record GivesNoArgument (bytes word : List ℕ) : Type 0 where
  pub program : ProgramParts
  pub text : IsTextOf bytes program
  pub checked : IsChecked program.blocks
  pub none : (z : ℤ) → IsArgumentOf word z → ⊥

-- this holds of some job of these texts
pub record HasJob (bytes word : List ℕ) (P : JobParts → Type 0) : Type 0 where
  pub job : JobParts
  pub is : IsJobOf bytes word job
  pub so : P job

-- why there is no job
abbrev pub JobRefused : List ℕ → List ℕ → CommandError → Type 0
JobRefused bytes word (faults.LineNotAllowed n) = IsBadLine bytes n
JobRefused bytes word (faults.TooMany n) = IsTooMany bytes n
JobRefused bytes word faults.CutShort = IsTruncated bytes
JobRefused bytes word (faults.Rule breach) = BreaksRule bytes breach
JobRefused bytes word faults.ArgumentNotAllowed = GivesNoArgument bytes word
JobRefused bytes word faults.NoMemory = Unit {0}
JobRefused bytes word fault = ⊥
