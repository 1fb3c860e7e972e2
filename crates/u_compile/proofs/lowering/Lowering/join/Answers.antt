use Rattle.u_compile.specs.Operands.{lowering}
use Rattle.u_compile.proofs.SideLaws.{joins}
use Rattle.u_compile.proofs.lowering.Lowering.join.Goals as goal

pub returns : goal.returns
returns c = joins (lowering c.args.self.now) (lowering c.push.new.self) c.merge.new.self c.args.left c.args.right c.in_ok-value.value c.in_ok-value.ensures c.in_ok-push.ensures
