use Rattle.u_explain.specs.Lines.{ArrowOn}
use Rattle.u_explain.proofs.LeftLaws.{word_on, word_stuck}
use Rattle.u_explain.proofs.ListLaws.{some_arrow}
use Rattle.u_explain.proofs.fronts.word_left.Goals as goal

pub returns-in-Ok : goal.returns-in-Ok
returns-in-Ok c = word_on (c.args.word.now) (ArrowOn c.args.version c.args.slashed c.args.room) (some_arrow c.args.version c.args.slashed c.args.room) c.args.bytes.now c.in-Ok.rest.now c.arrow_left.result.now c.in-Ok.ensures c.arrow_left.ensures

pub returns-in-Err : goal.returns-in-Err
returns-in-Err c = word_stuck (c.args.word.now) (ArrowOn c.args.version c.args.slashed c.args.room) (some_arrow c.args.version c.args.slashed c.args.room) c.args.bytes.now c.in-Err.rest.now c.in-Err.ensures
