use Rattle.u_compile.specs.Operands.{lowering}
use Rattle.u_compile.proofs.OperandLaws.{pushes_value}
use Rattle.u_compile.proofs.lowering.Lowering.close_choice.Goals as goal

pub returns : goal.returns
returns c = record {
  taken = lowering c.pop_two.new.self;
  left = c.in_ok-left.left;
  right = c.in_ok-left.right;
  pops = c.in_ok-left.ensures;
  pushes = pushes_value (lowering c.pop_two.new.self) (lowering c.note.new.self) (lowering c.push.new.self) c.add_ternary.new.self _ _ _ c.in_ok-value.ensures.gives c.in_ok-note.ensures c.in_ok-push.ensures;
}
