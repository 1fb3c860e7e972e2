use Rattle.u_commands.specs.Traces.{TracesJob, TraceRefused}
use Rattle.u_commands.proofs.Known.{match_more}
use Rattle.u_commands.proofs.Traced.{of_run}
use Rattle.u_commands.proofs.tracing.trace_entry.Goals as goal

pub returns : goal.returns
returns g c =
    let ran = c.in_ok-machine.ensures.ok in
    match_more c.traced.result _ _ _ _ (λ v h. of_run c.args.task.now.job c.args.firings c.in_ok-machine.machine _ ran (λ j n. TracesJob j c.args.task.now.origins.items n c.args.entry.now v.items) h)
    (λ fault h. of_run c.args.task.now.job c.args.firings c.in_ok-machine.machine _ ran (λ j n. TraceRefused j n c.args.entry.now fault) h) (rw c.deref.ensures.value at c.traced.ensures)
