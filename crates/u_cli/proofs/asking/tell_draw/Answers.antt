use Rattle.std.proofs.Common.{inr}
use Rattle.u_commands.proofs.Known.{match_more}
use Rattle.u_cli.proofs.AskingLaws.{both}
use Rattle.u_cli.proofs.asking.tell_draw.Goals as goal

pub returns-in-Ok : goal.returns-in-Ok
returns-in-Ok c =
    match_more c.draw_program.result _ _ _ _ (λ t p. (c.in-Ok.input, c.in-Ok.ensures, p)) (λ e m. inr m) (both c.draw_program.result _ _ c.draw_program.ensures.ok c.draw_program.ensures.memory)
