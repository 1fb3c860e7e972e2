use Rattle.std.proofs.Common.{refl}
use Rattle.u_compile.specs.Operands.{lowering}
use Rattle.u_compile.proofs.SideLaws.{popped_is}
use Rattle.u_compile.proofs.lowering.Lowering.close_loop.Goals as goal

pub returns : goal.returns
returns c = record {
  turns = c.in-Block.turns;
  control = c.in-Block.control;
  block = c.in-Block.block;
  ended = lowering c.pop_frame.new.self;
  frame = popped_is (lowering c.args.self.now) (lowering c.pop_frame.new.self) _ _ c.in_ok-turns.ensures c.in-Block.is;
  counted = lowering c.count.new.self;
  counts = c.in_ok-count.ensures;
  closed = lowering c.close_turns.new.self;
  turn = c.in_ok-close_turns.ensures;
  left = lowering c.close_variables.new.self;
  variables = c.in_ok-close_variables.ensures;
  rest = refl;
}
