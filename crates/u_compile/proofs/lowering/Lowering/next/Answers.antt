use Rattle.std.proofs.Common.{refl}
use Rattle.u_compile.specs.Operands.{lowering}
use Rattle.u_compile.proofs.SideLaws.{last_is}
use Rattle.u_compile.proofs.lowering.Lowering.next.Goals as goal

pub returns : goal.returns
returns c =
    let named = lowering c.pop_variable.new.self in
    record {
      taken = lowering c.pop_value.new.self;
      value = c.in_ok-value.value;
      pops = c.in_ok-value.ensures;
      named = named;
      variable = c.in_ok-name.name;
      name = c.in_ok-name.ensures;
      turns = c.in-Block.turns;
      control = c.in-Block.field-1;
      block = c.in-Block.field-2;
      frame = last_is named _ _ c.in_ok-turns.ensures c.in-Block.is;
      sets = c.in_ok-set_next.ensures.sets;
      rest = refl;
    }
