use Rattle.u_history.proofs.Merges.{union_with_none}
use Rattle.u_history.proofs.history.History.merges_with_none.Goals as goal

pub returns : goal.returns
returns c = union_with_none c.args.self.now
