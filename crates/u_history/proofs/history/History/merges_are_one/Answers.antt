use Rattle.u_history.proofs.Merges.{union_is_one}
use Rattle.u_history.proofs.history.History.merges_are_one.Goals as goal

pub returns : goal.returns
returns c u w r s p q = union_is_one c.args.self.now c.args.other.now u w r s p q
