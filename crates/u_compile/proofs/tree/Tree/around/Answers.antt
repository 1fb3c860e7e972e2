use Rattle.u_compile.specs.Trees.{IsAround}
use Rattle.u_compile.proofs.TreeLaws.{not_found}
use Rattle.u_compile.proofs.tree.Tree.around.Goals as goal

pub returns-then-is_either : goal.returns-then-is_either
returns-then-is_either c = c.outwards.invariant c.in_ok-parent.parent (IsAround.parent c.outwards.at c.in_ok-found.found c.in_ok-parent.ensures c.in_ok-found.ensures (c.is_either.ensures.0 c.if-is_either.true))

pub outwards-preserved : goal.outwards-preserved
outwards-preserved c = λ outer h. c.outwards.invariant outer (IsAround.beyond c.outwards.at c.in_ok-parent.parent c.in_ok-found.found c.in_ok-parent.ensures c.in_ok-found.ensures (not_found c.is_either.result c.is_either.ensures.1 c.if-is_either.false) h)
