use Rattle.u_compile.specs.Operands.{lowering}
use Rattle.u_compile.specs.Turns.{ClosesTurns}
use Rattle.u_compile.proofs.lowering.Lowering.close_turns.Given as goal

abbrev pub invariant-loop-carried : goal.invariant-loop-carried
invariant-loop-carried l = ClosesTurns l.turns.turn l.block (lowering l.fn.self) l.carried (lowering l.self)
