use Rattle.u_compile.specs.Operands.{lowering}
use Rattle.u_compile.specs.Turns.{ClosesTurns}
use Rattle.u_compile.proofs.lowering.Lowering.close_turns.Goals as goal

pub loop-carried-init : goal.loop-carried-init
loop-carried-init c = ClosesTurns.none

pub loop-carried-preserved : goal.loop-carried-preserved
loop-carried-preserved c = ClosesTurns.one_more c.loop-carried.carried (lowering c.loop-carried.self) (lowering c.close_turn.new.self) c.loop-carried.invariant c.in_ok-close_turn.ensures
