use Rattle.u_machine.proofs.Obeying.{agree}
use Rattle.u_machine.proofs.machine.Machine.agrees_with.Goals as goal

pub returns : goal.returns
returns c = agree c.args.self.now c.args.other.now c.holds.ensures.is c.holds-2.ensures.is
