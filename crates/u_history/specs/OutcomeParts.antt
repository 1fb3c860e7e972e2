-- Outcomes as the code has them: what their parts say.
use Rattle.std.specs.Prelude.{ℕ, List, map}
use Rattle.u_rule.specs.declared.entry.Entry.{Entry}
use Rattle.u_history.specs.declared.outcome.Outcome.{Outcome}
use Rattle.u_history.specs.declared.report.Ending.{Ending}
use Rattle.u_history.specs.declared.report.Counts.{Counts}
use Rattle.u_history.specs.Clashes.{cell_pairs, port_values}
use Rattle.u_history.specs.Outcomes.{IsOutcome}
use Rattle.u_history.specs.Verdicts.{Judgement, judged}
use Rattle.u_history.specs.Report.{outcome_text, report_text}

-- the outcome says all that H has
abbrev pub IsOutcomeOf : (Entry → Type 0) → Outcome → Type 0
IsOutcomeOf H o = IsOutcome H o.answers (map cell_pairs o.cell_clashes) (map port_values o.port_clashes) o.faults

-- the verdict on it
abbrev pub judged_of : Outcome → Judgement
judged_of o = judged o.answers (map cell_pairs o.cell_clashes) (map port_values o.port_clashes) o.faults

-- its lines in a report
abbrev pub outcome_text_of : Outcome → List ℕ
outcome_text_of o = outcome_text o.answers (map cell_pairs o.cell_clashes) (map port_values o.port_clashes) o.faults

-- the report of a set with so many entries and that outcome
abbrev pub report_text_of : Ending → Counts → Outcome → List ℕ
report_text_of state counts o =
    report_text state counts.firings counts.parked counts.entries o.answers (map cell_pairs o.cell_clashes) (map port_values o.port_clashes) o.faults
