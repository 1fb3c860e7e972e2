use Rattle.u_compile.specs.Operands.{lowering}
use Rattle.u_compile.specs.Namings.{known}
use Rattle.u_compile.proofs.LoopLaws.{carries_variables}
use Rattle.u_compile.proofs.lowering.Lowering.carry_variables.Goals as goal

pub returns : goal.returns
returns c = carries_variables c.args.turn c.args.waiting (lowering c.args.self.now) (lowering c.carry_each.new.self) (known c.set_place.new.self) c.truncate.new.self.items c.in_ok-carry_each.ensures c.set_place.ensures c.truncate.ensures.items
