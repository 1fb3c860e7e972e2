use Rattle.std.proofs.Common.{ℕ, ap, ◌∙◌}
use Rattle.u_compile.specs.declared.lowering.Frame.TheVariants as frames
use Rattle.u_compile.specs.Operands.{lowering}
use Rattle.u_compile.specs.Sides.{ClosesIf}
use Rattle.u_compile.proofs.SideLaws.{popped_is}
use Rattle.u_compile.proofs.lowering.Lowering.close_if.Goals as goal

pub returns-in_ok-close_choice-in-Choice : goal.returns-in_ok-close_choice-in-Choice
returns-in_ok-close_choice-in-Choice c = ClosesIf.choice c.in-Choice.control (lowering c.pop_frame.new.self) (popped_is (lowering c.args.self.now) (lowering c.pop_frame.new.self) _ _ c.in_ok-control.ensures (c.in-Choice.is ∙ ap (λ (k : ℕ). frames.Choice c.in-Choice.control k) c.if-whole-number.false)) c.in_ok-close_choice-in-Choice.ensures

pub returns-in_ok-close_sides-in-Sides : goal.returns-in_ok-close_sides-in-Sides
returns-in_ok-close_sides-in-Sides c = ClosesIf.sides c.in-Sides.sides (lowering c.pop_frame.new.self) (popped_is (lowering c.args.self.now) (lowering c.pop_frame.new.self) _ _ c.in_ok-control.ensures c.in-Sides.is) c.if-sides-number.false c.in_ok-close_sides-in-Sides.ensures
