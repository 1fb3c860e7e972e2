use Rattle.u_compile.proofs.compiling.compile.Goals as goal

pub returns-in-Err-clause-answer : goal.returns-in-Err-clause-answer
returns-in-Err-clause-answer c = record {
  why = c.in-Err.ensures.answer;
  rightly = λ some. c.in-Err.ensures.back some.source some.meanings some.allowed;
}
