use Rattle.std.proofs.Common.{ap}
use Rattle.u_compile.specs.Namings.{KnownParts}
use Rattle.u_compile.specs.Operands.{lowering}
use Rattle.u_compile.specs.Definitions.{with_names}
use Rattle.u_compile.proofs.DefinitionLaws.{defines_constant, defines_value}
use Rattle.u_compile.proofs.lowering.Lowering.define.Goals as goal

pub returns-then-branch : goal.returns-then-branch
returns-then-branch c = defines_constant (lowering c.args.self.now) (lowering c.pop.new.self) (lowering c.pop_spelled.new.self) (lowering c.define_constant.new.self) c.args.number _ _ c.in_ok-operand.ensures c.in_ok-pop_spelled.ensures c.in_ok-define_constant.ensures c.if-branch.true

pub returns : goal.returns
returns c =
    let resolved = lowering c.resolve.new.self in
    defines_value (lowering c.args.self.now) (lowering c.pop.new.self) (lowering c.pop_spelled.new.self) (lowering c.define_constant.new.self) resolved _ c.args.number _ c.in_ok-value.value _ c.in_ok-operand.ensures c.in_ok-pop_spelled.ensures c.in_ok-define_constant.ensures c.if-branch.false c.in_ok-value.ensures.goes_on c.in_ok-value.ensures.is (ap (λ (k : KnownParts). with_names resolved k) c.in_ok-define.ensures)
