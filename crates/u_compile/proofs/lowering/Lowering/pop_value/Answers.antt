use Rattle.u_compile.specs.Operands.{lowering}
use Rattle.u_compile.proofs.OperandLaws.{pops_one}
use Rattle.u_compile.proofs.lowering.Lowering.pop_value.Goals as goal

pub returns : goal.returns
returns c = pops_one (lowering c.args.self.now) (lowering c.pop.new.self) (lowering c.resolve.new.self) _ _ c.in_ok-operand.ensures c.in_ok-value.ensures.goes_on c.in_ok-value.ensures.is
