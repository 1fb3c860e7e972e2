use Rattle.std.proofs.Common.{arith}
use Rattle.u_compile.specs.Operands.{lowering}
use Rattle.u_compile.proofs.LoopLaws.{carries_none, carries_more, carries_all}
use Rattle.u_compile.proofs.lowering.Lowering.carry_each.Goals as goal

pub loop-number-init : goal.loop-number-init
loop-number-init c = carries_none c.args.turn c.args.waiting (lowering c.args.self.now)

pub loop-number-preserved : goal.loop-number-preserved
loop-number-preserved c = carries_more c.args.turn c.args.waiting c.loop-number.number (lowering c.args.self.now) (lowering c.loop-number.self) (lowering c.carry_start.new.self) c.in_ok-start.start c.loop-number.invariant c.in_ok-start.ensures c.in_ok-carry_start.ensures

pub returns : goal.returns
returns c = carries_all c.args.turn c.args.waiting c.loop-number.number (lowering c.args.self.now) (lowering c.loop-number.self) c.loop-number.invariant (omega arith)
