-- What the picture of a machine that ran says of its job.
use Rattle.std.proofs.Common.{◌≡◌, subst, ℕ, List, Contains}
use Rattle.u_check.specs.Jobs.{JobParts}
use Rattle.u_base.specs.Firing.{Held, Same}
use Rattle.u_rule.specs.Rule.{own_of}
use Rattle.u_rule.specs.declared.entry.Entry.{Entry}
use Rattle.u_rule.specs.declared.firing.Firing.{Firing}
use Rattle.u_machine.specs.State.{State}
use Rattle.u_history.specs.declared.report.Ending.{Ending}
use Rattle.u_history.proofs.Reports.{outcome_same}
use Rattle.u_commands.specs.Runs.{RanTo, ReportsMachine, IsStatusOf}
use Rattle.u_compile.specs.declared.origins.BlockOrigins.{BlockOrigins}
use Rattle.u_cli.specs.Drawings.{ShowsFirings, LeavesOut, DrawsRun}

-- one set, two predicates: one status
status_same : (H K : Entry → Type 0) → Same H K → (s : Ending) (n : ℕ) → IsStatusOf H s n → IsStatusOf K s n
status_same H K same s n t = record { answers = t.answers; cells = t.cells; ports = t.ports; faults = t.faults; outcome = outcome_same H K same t.answers t.cells t.ports t.faults t.outcome; is = t.is }

pub draws_run : (job : JobParts) (origins : List BlockOrigins) (firings : ℕ) (state : Ending) (m : State) (report text : List ℕ) (status left : ℕ) (shown : List Firing)
    → RanTo job firings state m → shown ≡ m.log → ShowsFirings job origins shown text → ReportsMachine m state report status → LeavesOut job state m.log left
    → DrawsRun job origins firings text status left
draws_run job origins firings state m report text status left shown ran e shows reports leaves = record {
  state = state;
  fs = m.log;
  run = ran.run;
  shows = subst (λ (fs : List Firing). ShowsFirings job origins fs text) e shows;
  ended = status_same (Contains m.history) (Held (own_of job) m.log) ran.held state status reports.ended;
  leaves = leaves;
}
