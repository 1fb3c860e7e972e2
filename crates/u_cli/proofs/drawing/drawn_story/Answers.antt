use Rattle.u_commands.specs.Traces.{TraceRefused}
use Rattle.u_commands.proofs.Known.{match_more}
use Rattle.u_commands.proofs.Traced.{of_run}
use Rattle.u_cli.specs.Drawings.{DrawsStoryOf}
use Rattle.u_cli.proofs.drawing.drawn_story.Goals as goal

pub returns : goal.returns
returns c =
    let ran = c.in_ok-machine.ensures.ok in
    match_more c.story_picture.result _ _ _ _ (λ v h. of_run c.args.task.now.job c.args.firings c.in_ok-machine.machine _ ran (λ j n. DrawsStoryOf j c.args.task.now.origins.items n c.args.entry.now v.items) h)
    (λ fault h. of_run c.args.task.now.job c.args.firings c.in_ok-machine.machine _ ran (λ j n. TraceRefused j n c.args.entry.now fault) h) (rw c.deref.ensures.value at c.story_picture.ensures)
