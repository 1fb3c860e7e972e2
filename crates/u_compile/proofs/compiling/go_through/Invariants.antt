use Rattle.u_compile.specs.Operands.{lowering}
use Rattle.u_compile.specs.Walks.{GoesThrough}
use Rattle.u_compile.proofs.compiling.go_through.Given as goal

abbrev pub invariant-loop-number : goal.invariant-loop-number
invariant-loop-number l = GoesThrough 0 (lowering l.fn.lowering) l.number (lowering l.lowering)
