use Rattle.std.proofs.Common.{◌≡◌}
use Rattle.u_commands.specs.declared.command_error.CommandError.{CommandError}
use Rattle.u_commands.specs.declared.command_error.CommandError.TheVariants.{NoMemory}
use Rattle.u_commands.proofs.RanLaws.{error_is}
use Rattle.u_commands.proofs.Waited.{waits_after}
use Rattle.u_commands.proofs.waiting.waits.Goals as goal

pub returns-clause-ok : goal.returns-clause-ok
returns-clause-ok g c =
    waits_after c.args.task.now.job c.args.task.now.origins.items c.args.firings c.in_ok-machine.state c.in_ok-machine.machine c.in_ok-told.told.text.items c.in_ok-told.told.status c.in_ok-machine.ensures.ok (rw c.deref.ensures.value at c.in_ok-told.ensures)

pub returns-in_err-told-clause-memory : goal.returns-in_err-told-clause-memory
returns-in_err-told-clause-memory g c = error_is c.from_residual-in_err-told.result (λ (e : CommandError). e ≡ NoMemory) c.from_residual-in_err-told.ensures.1
