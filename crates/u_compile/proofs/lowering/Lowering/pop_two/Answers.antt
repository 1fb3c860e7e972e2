use Rattle.std.proofs.Common.{[], ◌∷◌}
use Rattle.u_compile.specs.Operands.{lowering}
use Rattle.u_compile.proofs.OperandLaws.{pops_one, pops_more}
use Rattle.u_compile.proofs.lowering.Lowering.pop_two.Goals as goal

pub returns : goal.returns
returns c =
    let last = lowering c.pop.new.self in
    let both = lowering c.pop-2.new.self in
    let first = lowering c.resolve.new.self in
    let one = pops_one last both first _ _ c.in_ok-left.ensures c.in_ok-left-2.ensures.goes_on c.in_ok-left-2.ensures.is in
    pops_more (lowering c.args.self.now) last first (lowering c.resolve-2.new.self) _ (c.in_ok-left-2.left ∷ []) _ c.in_ok-right.ensures one c.in_ok-right-2.ensures.goes_on c.in_ok-right-2.ensures.is
