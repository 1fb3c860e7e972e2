use Rattle.std.proofs.Common.{codes, false}
use Rattle.u_explain.specs.Lines.{ArrowOn, NameOn}
use Rattle.u_explain.proofs.LeftLaws.{word_on, word_stuck}
use Rattle.u_explain.proofs.ListLaws.{some_arrow}
use Rattle.u_explain.proofs.LineLaws.{some_name}
use Rattle.u_explain.proofs.fronts.at_left.Goals as goal

pub returns-in-Ok : goal.returns-in-Ok
returns-in-Ok c = word_on (codes "@") (NameOn (ArrowOn c.args.version false 16)) (some_name (ArrowOn c.args.version false 16) (some_arrow c.args.version false 16)) c.args.bytes.now c.in-Ok.rest.now c.procedure_left.result.now c.in-Ok.ensures c.procedure_left.ensures

pub returns-in-Err : goal.returns-in-Err
returns-in-Err c = word_stuck (codes "@") (NameOn (ArrowOn c.args.version false 16)) (some_name (ArrowOn c.args.version false 16) (some_arrow c.args.version false 16)) c.args.bytes.now c.in-Err.rest.now c.in-Err.ensures
