-- What `waits` tells of a job.
use Rattle.std.specs.Prelude.{◌≡◌, ℕ, List, ◌++◌, Contains, map}
use Rattle.u_base.specs.Spaced.{ended}
use Rattle.u_check.specs.Jobs.{JobParts}
use Rattle.u_base.specs.Firing.{Held, Same}
use Rattle.u_value.specs.declared.value.Value.{Value}
use Rattle.u_rule.specs.Rule.{own_of}
use Rattle.u_rule.specs.declared.parts.Fault.{Fault}
use Rattle.u_rule.specs.declared.entry.Entry.{Entry}
use Rattle.u_rule.specs.declared.firing.Firing.{Firing}
use Rattle.u_history.specs.declared.report.Ending.{Ending}
use Rattle.u_history.specs.Outcomes.{IsOutcome, CellPairs, PortValues}
use Rattle.u_history.specs.Verdicts.{Judgement, judged}
use Rattle.u_history.specs.Report.{state_line, verdict_line}
use Rattle.u_trace.specs.Waits.{AreWaits}
use Rattle.u_trace.specs.Text.{waiting_text, read_text}
use Rattle.u_trace.specs.declared.activities.WaitingActivity.{WaitingActivity}
use Rattle.u_trace.specs.declared.reads.DeferredRead.{DeferredRead}
use Rattle.u_trace.specs.declared.answer.Waiting.{Waiting}
use Rattle.u_compile.specs.declared.origins.BlockOrigins.{BlockOrigins}
use Rattle.u_commands.specs.Placed.{place_at}
use Rattle.u_commands.specs.Statuses.{status_of}
use Rattle.u_commands.specs.Runs.{RunsTo}

-- what an activity waits for, and the place of its statement
abbrev pub waiting_line : List BlockOrigins → WaitingActivity → List ℕ
waiting_line origins w = waiting_text w ++ place_at origins w.activity

-- a read of an unwritten cell, and the place of the reader's statement
abbrev pub read_line : List BlockOrigins → DeferredRead → List ℕ
read_line origins r = read_text r ++ place_at origins r.reader

-- those lines
unfoldable pub waiting_lines : List BlockOrigins → Waiting → List ℕ
waiting_lines origins w =
    ended (map (waiting_line origins) w.activities.items) ++ ended (map (read_line origins) w.reads.items)

-- the verdict on H
pub record IsVerdictOn (H : Entry → Type 0) (verdict : Judgement) : Type 0 where
  pub answers : List Value
  pub cells : List CellPairs
  pub ports : List PortValues
  pub faults : List Fault
  pub outcome : IsOutcome H answers cells ports faults
  pub is : verdict ≡ judged answers cells ports faults

-- The lines of what waits over H, and after them the state and the verdict on H. The status is that of both.
pub record TellsWaits (job : JobParts) (origins : List BlockOrigins) (H : Entry → Type 0) (state : Ending) (written : List ℕ) (status : ℕ) : Type 0 where
  pub waits : Waiting
  pub exact : AreWaits job H waits
  pub verdict : Judgement
  pub judged : IsVerdictOn H verdict
  pub is : written ≡ waiting_lines origins waits ++ (state_line state ++ verdict_line verdict)
  pub ended : status ≡ status_of state verdict

-- the same of the history that the plain run of a job holds, with so many firings at most
pub record WaitsAfterRun (job : JobParts) (origins : List BlockOrigins) (firings : ℕ) (written : List ℕ) (status : ℕ) : Type 0 where
  pub state : Ending
  pub fs : List Firing
  pub run : RunsTo job firings state fs
  pub history : List Entry
  pub held : Same (Contains history) (Held (own_of job) fs)
  pub told : TellsWaits job origins (Contains history) state written status
