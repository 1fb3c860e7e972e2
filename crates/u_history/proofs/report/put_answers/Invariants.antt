use Rattle.std.proofs.Common.{◌≡◌, ◌++◌, take}
use Rattle.u_history.specs.Report.{texts, answer_line}
use Rattle.u_history.proofs.report.put_answers.Given as goal

abbrev pub invariant-loop-answer : goal.invariant-loop-answer
invariant-loop-answer l = l.out.items ≡ l.initial.out.items ++ texts answer_line (take l.answer-index l.answers)
