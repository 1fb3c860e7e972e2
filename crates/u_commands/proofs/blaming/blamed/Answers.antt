use Rattle.u_commands.proofs.Blamed.{blames_job, blame_refused}
use Rattle.u_commands.proofs.blaming.blamed.Goals as goal

pub returns-in-Err : goal.returns-in-Err
returns-in-Err c =
    blame_refused c.args.machine.now c.args.origins.now c.requires.ran c.args.activity.now c.args.port c.in-Err.error c.blame_fault.result c.blame_fault.ensures c.in-Err.ensures.answer

pub returns-in-Ok-blamed_text : goal.returns-in-Ok-blamed_text
returns-in-Ok-blamed_text c =
    blames_job c.args.machine.now c.args.origins.now c.requires.ran c.args.activity.now c.args.port c.in-Ok.found c.in-Ok-blamed_text.text.items c.in-Ok.ensures.answer c.in-Ok.ensures.cell c.in-Ok-blamed_text.ensures
