use Rattle.u_compile.specs.Operands.{lowering}
use Rattle.u_compile.proofs.SideLaws.{keeps_gate}
use Rattle.u_compile.proofs.lowering.Lowering.keep_gate.Goals as goal

pub returns : goal.returns
returns c = keeps_gate (lowering c.args.self.now) (lowering c.note.new.self) c.keep_gate.new.self c.in_ok-keep_gate.ensures c.in_ok-note.ensures
