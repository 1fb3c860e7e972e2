use Rattle.u_history.proofs.Merges.{union_with_itself}
use Rattle.u_history.proofs.history.History.merges_with_itself.Goals as goal

pub returns : goal.returns
returns c = union_with_itself c.args.self.now
