use Rattle.u_history.proofs.Merges.{union_has_left, union_has_right, union_is_least}
use Rattle.u_history.proofs.history.History.merge_is_least.Goals as goal

pub returns-clause-left : goal.returns-clause-left
returns-clause-left c u p e m = union_has_left c.args.self.now c.args.other.now u p e m

pub returns-clause-right : goal.returns-clause-right
returns-clause-right c u p e m = union_has_right c.args.self.now c.args.other.now u p e m

pub returns-clause-least : goal.returns-clause-least
returns-clause-least c u above p l r e m = union_is_least c.args.self.now c.args.other.now u above p l r e m
