use Rattle.u_compile.specs.Operands.{lowering}
use Rattle.u_compile.proofs.LoopLaws.{counts_on}
use Rattle.u_compile.proofs.lowering.Lowering.count_on.Goals as goal

pub returns : goal.returns
returns c =
    let both = lowering c.value_of_constant.new.self in
    counts_on c.args.turn (lowering c.args.self.now) (lowering c.value_of.new.self) both (lowering c.note.new.self) c.in_ok-counter.field-0 c.add_binary.new.self c.set_next.new.self _ _ _ c.in_ok-counter.ensures c.in_ok-value.ensures.goes_on c.in_ok-value.ensures.named c.in_ok-one.ensures.goes_on c.in_ok-one.ensures.constant c.in_ok-next.ensures.gives c.in_ok-note.ensures c.in_ok-set_next.ensures.sets
