use Rattle.std.proofs.Common.{ap, ◌∙◌}
use Rattle.u_program.specs.Parts.{ProgramParts}
use Rattle.u_check.specs.Jobs.{JobParts}
use Rattle.u_machine.specs.State.{State}
use Rattle.u_fleet.proofs.Living.{front_text_saved}
use Rattle.u_fleet.proofs.restarting.take_text.Goals as goal

pub returns-in-Front-clause-text : goal.returns-in-Front-clause-text
returns-in-Front-clause-text g c =
    front_text_saved _ c.args.life.now.replica.machine c.version-version.result c.applied.result.now c.in-Front.count c.front_text.result c.requires.1.job_is c.requires.1.sound
    (c.version-version.ensures.version ∙ ap (λ (p : ProgramParts). p.version) c.program.ensures.program ∙ ap (λ (j : JobParts). j.program.version) c.job.ensures ∙ ap (λ (m : State). m.job.program.version) c.machine-machine.ensures)
    (c.applied.ensures ∙ ap (λ (m : State). m.log) c.machine-machine.ensures) c.front_text.ensures.text c.front_text.ensures.valid
