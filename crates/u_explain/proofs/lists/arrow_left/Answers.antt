use Rattle.std.proofs.Common.{codes}
use Rattle.u_explain.specs.Lines.{ListOn}
use Rattle.u_explain.proofs.LeftLaws.{word_on, word_stuck}
use Rattle.u_explain.proofs.ListLaws.{some_list}
use Rattle.u_explain.proofs.lists.arrow_left.Goals as goal

pub returns-in-Ok : goal.returns-in-Ok
returns-in-Ok c = word_on (codes " ->") (ListOn c.args.version c.args.slashed 0 c.args.room) (some_list c.args.version c.args.slashed 0 c.args.room) c.args.bytes.now c.in-Ok.rest.now c.list_left.result.now c.in-Ok.ensures c.list_left.ensures

pub returns-in-Err : goal.returns-in-Err
returns-in-Err c = word_stuck (codes " ->") (ListOn c.args.version c.args.slashed 0 c.args.room) (some_list c.args.version c.args.slashed 0 c.args.room) c.args.bytes.now c.in-Err.rest.now c.in-Err.ensures
