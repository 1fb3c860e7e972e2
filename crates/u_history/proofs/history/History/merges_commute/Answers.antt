use Rattle.u_history.proofs.Merges.{union_commutes}
use Rattle.u_history.proofs.history.History.merges_commute.Goals as goal

pub returns : goal.returns
returns c u = union_commutes c.args.self.now c.args.other.now u
