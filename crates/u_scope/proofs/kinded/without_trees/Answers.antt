use Rattle.std.proofs.Common.{reverse}
use Rattle.u_scope.proofs.TreeLaws.{none_left}
use Rattle.u_scope.proofs.kinded.without_trees.Goals as goal

pub returns-then-left-rest : goal.returns-then-left-rest
returns-then-left-rest c = none_left c.loop-left.left c.args.count c.loop-left.rest.now (reverse c.args.nodes.now) c.if-left-rest.true c.loop-left.invariant
