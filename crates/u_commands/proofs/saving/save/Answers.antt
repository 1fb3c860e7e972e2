use Rattle.std.proofs.Common.{◌∙◌, ap}
use Rattle.u_program.specs.Parts.{ProgramParts}
use Rattle.u_commands.proofs.Saved.{saved_run}
use Rattle.u_commands.proofs.saving.save.Goals as goal

pub returns-clause-ok : goal.returns-clause-ok
returns-clause-ok g c =
    saved_run c.args.job.now c.args.firings c.in_ok-machine.field-0-1 c.in_ok-machine.machine c.version-version.result c.applied.result.now c.parked.result c.new-text.result.items c.write_checkpoint.new.out.items
    c.in_ok-machine.ensures.ok (c.version-version.ensures.version ∙ ap (λ (p : ProgramParts). p.version) c.program.ensures.program)
    c.applied.ensures c.parked.ensures c.new-text.ensures.items c.in_ok-write_checkpoint.ensures.ok c.in_ok-write_checkpoint.ensures.valid
