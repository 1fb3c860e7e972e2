use Rattle.std.proofs.Common.{◌∙◌, ap, List, Err}
use Rattle.u_rule.specs.declared.firing.Firing.{Firing}
use Rattle.u_commands.specs.Traces.{traced_text}
use Rattle.u_commands.proofs.Traced.{missing, traces_run}
use Rattle.u_commands.proofs.tracing.traced.Goals as goal

pub returns-in-Err-machine_causes : goal.returns-in-Err-machine_causes
returns-in-Err-machine_causes c = λ n ran.
    missing c.args.machine.now n ran c.args.entry.now c.in-Err-machine_causes.error c.trace_fault-in-Err-machine_causes.result c.trace_fault-in-Err-machine_causes.ensures
    (λ q k. c.in-Err-machine_causes.ensures.refused.0 (ap Err q) k)

pub returns : goal.returns
returns c = λ n ran.
    traces_run c.args.machine.now.job c.args.origins.now n c.args.machine.now ran c.args.entry.now c.in-Ok-machine_causes.found.items c.in-Ok.told.items c.in_ok-text.text.items
    c.in-Ok.ensures.0 c.in-Ok-machine_causes.ensures.ok c.in-Ok.ensures.1 c.in-Ok.ensures.2
    (c.in_ok-text.ensures ∙ ap (λ (xs : List Firing). traced_text c.args.origins.now xs c.deref-2.result.now) c.deref.ensures.value ∙ ap (λ (xs : List Firing). traced_text c.args.origins.now c.in-Ok-machine_causes.found.items xs) c.deref-2.ensures.value)
