use Rattle.std.proofs.Common.{codes}
use Rattle.u_explain.specs.Lines.{KindOn}
use Rattle.u_explain.proofs.LeftLaws.{word_on, word_stuck}
use Rattle.u_explain.proofs.LineLaws.{some_kind}
use Rattle.u_explain.proofs.fronts.spaced_kind_left.Goals as goal

pub returns-in-Ok : goal.returns-in-Ok
returns-in-Ok c = word_on (codes " ") (KindOn c.args.version) (some_kind c.args.version) c.args.bytes.now c.in-Ok.rest.now c.kind_left.result.now c.in-Ok.ensures c.kind_left.ensures

pub returns-in-Err : goal.returns-in-Err
returns-in-Err c = word_stuck (codes " ") (KindOn c.args.version) (some_kind c.args.version) c.args.bytes.now c.in-Err.rest.now c.in-Err.ensures
