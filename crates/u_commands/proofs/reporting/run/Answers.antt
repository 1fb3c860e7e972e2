use Rattle.std.proofs.Common.{◌≡◌}
use Rattle.u_commands.specs.declared.command_error.CommandError.{CommandError}
use Rattle.u_commands.specs.declared.command_error.CommandError.TheVariants.{NoMemory}
use Rattle.u_commands.proofs.RanLaws.{reports_run, error_is}
use Rattle.u_commands.proofs.reporting.run.Goals as goal

pub returns-clause-ok : goal.returns-clause-ok
returns-clause-ok g c =
    reports_run c.args.job.now c.args.firings c.in_ok-machine.state c.in_ok-machine.machine c.in_ok-told.told.text.items c.in_ok-told.told.status c.only_writes_clash.ensures.determinate c.only_writes_clash.ensures.strict c.in_ok-machine.ensures.ok c.in_ok-told.ensures

pub returns-in_err-told-clause-memory : goal.returns-in_err-told-clause-memory
returns-in_err-told-clause-memory g c = error_is c.from_residual-in_err-told.result (λ (e : CommandError). e ≡ NoMemory) c.from_residual-in_err-told.ensures.1
