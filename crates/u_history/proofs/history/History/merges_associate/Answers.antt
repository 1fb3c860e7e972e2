use Rattle.u_history.proofs.Merges.{union_associates}
use Rattle.u_history.proofs.history.History.merges_associate.Goals as goal

pub returns : goal.returns
returns c front back u p q = union_associates c.args.self.now c.args.other.now c.args.third.now front back u p q
