use Rattle.u_history.specs.Report.{answer_line}
use Rattle.u_history.proofs.Texts.{texts_more}
use Rattle.u_history.proofs.report.put_answers.Goals as goal

pub loop-answer-preserved : goal.loop-answer-preserved
loop-answer-preserved c =
    texts_more answer_line c.args.answers.now c.loop-answer.answer-index c.answer-item.result c.args.out.now.items c.loop-answer.out.items c.put_answer.new.out.items c.loop-answer-test.true c.answer-item.is c.loop-answer.invariant c.in_ok-put_answer.ensures
