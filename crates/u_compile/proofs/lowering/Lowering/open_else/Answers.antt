use Rattle.std.proofs.Common.{refl}
use Rattle.u_compile.specs.Operands.{lowering}
use Rattle.u_compile.specs.Sides.{OpensElse}
use Rattle.u_compile.proofs.SideLaws.{last_is}
use Rattle.u_compile.proofs.lowering.Lowering.open_else.Goals as goal

pub returns-in-Choice : goal.returns-in-Choice
returns-in-Choice c = OpensElse.choice c.in-Choice.field-0 c.in-Choice.field-1 (last_is (lowering c.args.self.now) _ _ c.in_ok-last_frame.ensures c.in-Choice.is) refl
