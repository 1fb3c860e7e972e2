use Rattle.std.specs.Fmt.{decimal}
use Rattle.u_explain.specs.Lines.{FollowOn}
use Rattle.u_explain.proofs.LeftLaws.{word_on, word_stuck}
use Rattle.u_explain.proofs.LineLaws.{some_follow}
use Rattle.u_explain.proofs.fronts.number_left.Goals as goal

pub returns-in-Ok : goal.returns-in-Ok
returns-in-Ok c = word_on (decimal c.args.number) (FollowOn c.args.follows) (some_follow c.args.follows) c.args.bytes.now c.in-Ok.rest.now c.follow_left.result.now c.in-Ok.ensures c.follow_left.ensures

pub returns-in-Err : goal.returns-in-Err
returns-in-Err c = word_stuck (decimal c.args.number) (FollowOn c.args.follows) (some_follow c.args.follows) c.args.bytes.now c.in-Err.rest.now c.in-Err.ensures
