use Rattle.u_compile.specs.Operands.{lowering}
use Rattle.u_compile.proofs.SideLaws.{popped_is}
use Rattle.u_compile.proofs.lowering.Lowering.open_turn.Goals as goal

pub returns : goal.returns
returns c = record {
  turns = c.in-Test.turns;
  ended = lowering c.pop_frame.new.self;
  frame = popped_is (lowering c.args.self.now) (lowering c.pop_frame.new.self) _ _ c.in_ok-turns.ensures c.in-Test.is;
  taken = lowering c.pop_value.new.self;
  value = c.in_ok-value.value;
  pops = c.in_ok-value.ensures;
  enters = c.in_ok-enter_block.ensures;
}
