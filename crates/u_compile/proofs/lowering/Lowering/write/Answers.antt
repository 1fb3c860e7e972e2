use Rattle.std.proofs.Common.{[], ◌∷◌}
use Rattle.u_compile.specs.Operands.{lowering}
use Rattle.u_compile.proofs.OperandLaws.{pops_more, writes_value}
use Rattle.u_compile.proofs.lowering.Lowering.write.Goals as goal

pub returns : goal.returns
returns c =
    let between = lowering c.resolve.new.self in
    let pops = pops_more (lowering c.args.self.now) (lowering c.pop.new.self) (lowering c.pop_two.new.self) between _ (c.in_ok-array.array ∷ c.in_ok-array.index ∷ []) _ c.in_ok-value.ensures c.in_ok-array.ensures c.in_ok-value-2.ensures.goes_on c.in_ok-value-2.ensures.is in
    writes_value (lowering c.args.self.now) between (lowering c.note.new.self) c.add_ternary.new.self _ _ _ _ pops c.in_ok-add_ternary.ensures.gives c.in_ok-note.ensures
