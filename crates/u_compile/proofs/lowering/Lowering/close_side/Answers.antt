use Rattle.u_compile.specs.Operands.{lowering}
use Rattle.u_compile.specs.Sides.{ClosesSide}
use Rattle.u_compile.proofs.lowering.Lowering.close_side.Goals as goal

pub returns : goal.returns
returns c = ClosesSide.sides c.in_ok-sides.sides (lowering c.pop_side.new.self) c.in_ok-sides.ensures c.in_ok-leave_side.ensures
