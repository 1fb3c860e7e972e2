use Rattle.u_compile.specs.Operands.{lowering}
use Rattle.u_compile.proofs.KnownLaws.{learns_named}
use Rattle.u_compile.proofs.OperandLaws.{goes_known}
use Rattle.u_compile.proofs.lowering.Lowering.value_of.Goals as goal

pub returns-clause-goes_on : goal.returns-clause-goes_on
returns-clause-goes_on c = goes_known (lowering c.args.self.now) _ _ c.in_ok-value.ensures.grows (learns_named _ _ _ _ c.in_ok-value.ensures.adds)
