use Rattle.u_compile.specs.Operands.{lowering}
use Rattle.u_compile.specs.Loops.{ClosesEach}
use Rattle.u_compile.proofs.lowering.Lowering.close_each.Goals as goal

pub loop-carried-init : goal.loop-carried-init
loop-carried-init c = ClosesEach.none

pub loop-carried-preserved : goal.loop-carried-preserved
loop-carried-preserved c = ClosesEach.one_more c.loop-carried.carried (lowering c.loop-carried.self) (lowering c.close_variable.new.self) c.loop-carried.invariant c.in_ok-close_variable.ensures
