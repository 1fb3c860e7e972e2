use Rattle.std.proofs.Common.{Bool, subst}
use Rattle.u_compile.specs.Operands.{lowering}
use Rattle.u_compile.specs.Trees.{IsWanted}
use Rattle.u_compile.specs.Sides.{ClosesSides}
use Rattle.u_compile.proofs.lowering.Lowering.close_sides.Goals as goal

pub returns-then-branch : goal.returns-then-branch
returns-then-branch c = ClosesSides.wanted (subst (λ (b : Bool). IsWanted c.args.self.now.tree.now c.args.sides.whole b) c.if-branch.true c.in_ok-is_wanted.ensures) (lowering c.join_sides.new.self) c.in_ok-join_sides.ensures c.in_ok-keep_gate.ensures
