use Rattle.std.proofs.Common.{inr}
use Rattle.u_commands.proofs.Known.{match_more}
use Rattle.u_cli.proofs.Gathering.{tells_end}
use Rattle.u_cli.proofs.worlds.told_of.Goals as goal

pub returns : goal.returns
returns g c =
    match_more c.run_behind.result _ _ _ _ (λ t r. tells_end c.args.world c.args.firings c.in-Ok.first c.in-Ok.ensures t.text.items t.status (rw (c.deref.ensures.value, c.in_ok-lines.ensures, c.into_machine-machine.ensures) at r))
    (λ fault r. inr (c.in-Ok.first, c.in-Ok.ensures, rw c.into_machine-machine.ensures at r)) c.run_behind.ensures
