use Rattle.u_trace.proofs.PortLaws.{some_port, not_zero}
use Rattle.u_trace.proofs.ports.Ports.is_empty.Goals as goal

pub returns-clause-other : goal.returns-clause-other
returns-clause-other c h = some_port c.args.self.now (not_zero c.args.self.now.bits h)
