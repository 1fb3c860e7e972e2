use Rattle.u_commands.proofs.Known.{match_more}
use Rattle.u_commands.proofs.Restored.{restored_run, restored_refused}
use Rattle.u_commands.proofs.restoring.restore.Goals as goal

pub returns : goal.returns
returns g c =
    let was = c.in-Ok.ensures in
    match_more c.run_behind.result _ _ _ _ (λ t r. restored_run c.args.job.now 1 1 c.args.firings c.args.checkpoint.now c.in-Ok.restored.1 c.in-Ok.restored.0 was t.text.items t.status (rw (c.ending_line.ensures, c.into_machine-machine.ensures) at r))
    (λ fault r. restored_refused c.args.job.now 1 1 c.args.firings c.args.checkpoint.now c.in-Ok.restored.1 c.in-Ok.restored.0 was fault (rw c.into_machine-machine.ensures at r)) c.run_behind.ensures
