use Rattle.u_compile.specs.Operands.{lowering}
use Rattle.u_compile.proofs.LoopLaws.{CarriesSo}
use Rattle.u_compile.proofs.lowering.Lowering.carry_each.Given as goal

abbrev pub invariant-loop-number : goal.invariant-loop-number
invariant-loop-number l = CarriesSo l.turn l.waiting l.number (lowering l.fn.self) (lowering l.self)
