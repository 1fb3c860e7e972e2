use Rattle.u_share.proofs.Turned.{lead_not}
use Rattle.u_share.proofs.listening.fire_if_leading.Goals as goal

pub returns-else-ear : goal.returns-else-ear
returns-else-ear g c = lead_not c.args.machine.now (g.W.Write.contents c.args.writer.now)
