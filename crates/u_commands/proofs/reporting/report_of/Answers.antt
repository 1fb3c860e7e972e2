use Rattle.std.proofs.Common.{◌∙◌, ap, subst, Contains, List, ℕ, length, map}
use Rattle.u_rule.specs.declared.entry.Entry.{Entry}
use Rattle.u_history.specs.Report.{IsReportOf}
use Rattle.u_history.specs.Clashes.{cell_pairs, port_values}
use Rattle.u_history.specs.OutcomeParts.{IsOutcomeOf}
use Rattle.u_history.specs.Verdicts.{Judgement}
use Rattle.u_commands.specs.Statuses.{status_of}
use Rattle.u_commands.proofs.reporting.report_of.Goals as goal

pub returns : goal.returns
returns c =
    let m = c.args.machine.now in
    let o = c.in_ok-outcome.outcome in
    let said : IsOutcomeOf (Contains m.history) o = subst (λ (es : List Entry). IsOutcomeOf (Contains es) o) c.history.ensures c.in_ok-outcome.ensures in
    let report = c.in_ok-text.ensures.of m.history c.counts.ensures.rises c.counts.ensures.entries said in
    record {
      reported = subst (λ (n : ℕ). IsReportOf (Contains m.history) c.args.state n (length m.parked) c.in_ok-text.text.items) c.counts.ensures.firings
          (subst (λ (n : ℕ). IsReportOf (Contains m.history) c.args.state c.counts.result.firings n c.in_ok-text.text.items) c.counts.ensures.parked report);
      ended = record {
        answers = o.answers;
        cells = map cell_pairs o.cell_clashes;
        ports = map port_values o.port_clashes;
        faults = o.faults;
        outcome = said;
        is = c.status-status.ensures ∙ ap (λ (j : Judgement). status_of c.args.state j) c.verdict.ensures;
      };
    }
