use Rattle.std.proofs.Common.{ap}
use Rattle.u_program.specs.Parts.{ProgramParts}
use Rattle.u_compile.specs.Operands.{lowering}
use Rattle.u_compile.proofs.compiling.lower_all.Goals as goal

pub returns-in-Some-clause-reached : goal.returns-in-Some-clause-reached
returns-in-Some-clause-reached c = record {
  end = lowering c.go_through.new.lowering;
  through = c.in_ok-go_through.ensures;
  are = ap (λ (p : ProgramParts). p.blocks) c.in-Some.ensures.program;
}
