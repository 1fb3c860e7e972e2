use Rattle.u_compile.specs.Operands.{lowering}
use Rattle.u_compile.specs.Loops.{ClosesEach}
use Rattle.u_compile.proofs.lowering.Lowering.close_each.Given as goal

abbrev pub invariant-loop-carried : goal.invariant-loop-carried
invariant-loop-carried l = ClosesEach l.turns l.end l.given.0 l.given.1 (lowering l.fn.self) l.carried (lowering l.self)
