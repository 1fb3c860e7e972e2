use Rattle.u_trace.proofs.PortLaws.{without_has}
use Rattle.u_trace.proofs.ports.Ports.without.Goals as goal

pub returns : goal.returns
returns c k = without_has c.args.self c.args.other k
