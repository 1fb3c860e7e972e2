use Rattle.std.proofs.Common.{sym, ◌∙◌, ap, subst, ℕ, ◌++◌, List, Contains}
use Rattle.u_rule.specs.declared.entry.Entry.{Entry}
use Rattle.u_trace.specs.Waits.{AreWaits}
use Rattle.u_commands.proofs.Waited.{tells_waits}
use Rattle.u_commands.proofs.waiting.waiting_told.Goals as goal

pub returns : goal.returns
returns c =
    let exact = subst (λ (es : List Entry). AreWaits c.job.result.now (Contains es) c.in_ok-waits.waits) (c.history-2.ensures ∙ sym c.history.ensures) c.in_ok-waits.ensures.exact in
    tells_waits c.args.machine.now c.args.origins.now c.args.state c.history.result.now c.job.result.now c.in_ok-outcome.outcome c.in_ok-waits.waits _ _ c.new-text.result.items c.push_waits.new.out.items c.extend_from_slice.new.self.items c.write_text.new.out.items c.status-status.result
    c.history.ensures c.job.ensures c.in_ok-outcome.ensures exact c.verdict.ensures c.verdict-2.ensures c.new-text.ensures.items c.in_ok-push_waits.ensures (c.in_ok-extend_from_slice.ensures.items ∙ ap (λ (xs : List ℕ). c.push_waits.new.out.items ++ xs) c.state_line.ensures) c.in_ok-write_text.ensures c.status-status.ensures
