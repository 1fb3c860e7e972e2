use Rattle.std.proofs.Common.{Bool, ap, ◌∙◌, subst}
use Rattle.u_compile.specs.declared.lowering.Sides.{Sides}
use Rattle.u_compile.specs.Operands.{lowering}
use Rattle.u_compile.specs.Trees.{IsWanted}
use Rattle.u_compile.specs.Sides.{LeavesSide, with_left}
use Rattle.u_compile.proofs.lowering.Lowering.leave_side.Goals as goal

pub returns-then-branch : goal.returns-then-branch
returns-then-branch c =
    let taken = lowering c.pop_value.new.self in
    LeavesSide.wanted (subst (λ (b : Bool). IsWanted c.args.self.now.tree.now c.args.sides.whole b) c.if-branch.true c.in_ok-is_wanted.ensures) taken c.in_ok-value.value c.in_ok-value.ensures (c.in_ok-go_around.ensures ∙ ap (λ (s : Sides). with_left taken s) c.noted.ensures)
