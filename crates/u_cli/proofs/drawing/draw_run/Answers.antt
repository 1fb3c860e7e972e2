use Rattle.std.proofs.Common.{◌≡◌, subst}
use Rattle.u_check.specs.Jobs.{JobParts}
use Rattle.u_commands.specs.declared.command_error.CommandError.{CommandError}
use Rattle.u_commands.specs.declared.command_error.CommandError.TheVariants.{NoMemory}
use Rattle.u_commands.proofs.RanLaws.{error_is}
use Rattle.u_cli.specs.Drawings.{LeavesOut}
use Rattle.u_cli.proofs.DrawnLaws.{draws_run}
use Rattle.u_cli.proofs.drawing.draw_run.Goals as goal

pub returns-in_err-text-clause-memory : goal.returns-in_err-text-clause-memory
returns-in_err-text-clause-memory c = error_is c.from_residual-in_err-text.result (λ (e : CommandError). e ≡ NoMemory) c.from_residual-in_err-text.ensures.1

pub returns-in_err-status-clause-memory : goal.returns-in_err-status-clause-memory
returns-in_err-status-clause-memory c = error_is c.from_residual-in_err-status.result (λ (e : CommandError). e ≡ NoMemory) c.from_residual-in_err-status.ensures.1

pub returns-in-Ok-clause-ok : goal.returns-in-Ok-clause-ok
returns-in-Ok-clause-ok c =
    draws_run c.args.task.now.job c.args.task.now.origins.items c.args.firings c.in_ok-machine.state c.in_ok-machine.machine c.in_ok-status.field-0.text.items c.in_ok-text.text.items
    c.in_ok-status.field-0.status c.in-Ok.left _ c.in_ok-machine.ensures.ok c.applied.ensures (rw c.deref.ensures.value at c.in_ok-text.ensures)
    c.in_ok-status.ensures (subst (λ (j : JobParts). LeavesOut j c.in_ok-machine.state c.in_ok-machine.machine.log c.in-Ok.left) c.in_ok-machine.ensures.ok.of c.in-Ok.ensures.ok)
