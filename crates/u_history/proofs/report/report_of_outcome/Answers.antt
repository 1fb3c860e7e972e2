use Rattle.std.proofs.Common.{◌∙◌, ◌++◌, ap, List, ℕ}
use Rattle.u_history.specs.OutcomeParts.{report_text_of}
use Rattle.u_history.proofs.Reports.{report_is}
use Rattle.u_history.proofs.report.report_of_outcome.Goals as goal

pub returns-clause-of : goal.returns-clause-of
returns-clause-of c es rises count outcome =
    report_is es c.args.outcome.now c.args.state c.args.counts _ rises count outcome
    (c.in_ok-put_report.ensures ∙ ap (λ (o : List ℕ). o ++ report_text_of c.args.state c.args.counts c.args.outcome.now) c.new-out.ensures.items)
