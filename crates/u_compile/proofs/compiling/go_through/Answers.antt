use Rattle.u_compile.specs.Operands.{lowering}
use Rattle.u_compile.specs.Walks.{GoesThrough}
use Rattle.u_compile.proofs.compiling.go_through.Goals as goal

pub loop-number-init : goal.loop-number-init
loop-number-init c = GoesThrough.none

pub loop-number-preserved : goal.loop-number-preserved
loop-number-preserved c = GoesThrough.one_more c.loop-number.number (lowering c.loop-number.lowering) (lowering c.advance.new.self) c.loop-number.invariant c.in-Ok.ensures
