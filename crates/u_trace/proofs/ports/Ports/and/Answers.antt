use Rattle.u_trace.proofs.PortLaws.{and_has}
use Rattle.u_trace.proofs.ports.Ports.and.Goals as goal

pub returns : goal.returns
returns c k = and_has c.args.self c.args.other k
