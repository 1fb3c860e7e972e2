use Rattle.u_explain.specs.Left.{Numbered, Among}
use Rattle.u_explain.specs.Lines.{FollowOn}
use Rattle.u_explain.proofs.LeftLaws.{word_on, word_stuck}
use Rattle.u_explain.proofs.LineLaws.{some_follow, some_among}
use Rattle.u_explain.proofs.fronts.numbered_left.Goals as goal

pub returns-in-Ok : goal.returns-in-Ok
returns-in-Ok c = word_on (c.args.word.now) (Among 1 c.args.high (Numbered (FollowOn c.args.follows))) (some_among 1 c.args.high (FollowOn c.args.follows) c.requires (some_follow c.args.follows)) c.args.bytes.now c.in-Ok.rest.now c.numbers_left.result.now c.in-Ok.ensures c.numbers_left.ensures

pub returns-in-Err : goal.returns-in-Err
returns-in-Err c = word_stuck (c.args.word.now) (Among 1 c.args.high (Numbered (FollowOn c.args.follows))) (some_among 1 c.args.high (FollowOn c.args.follows) c.requires (some_follow c.args.follows)) c.args.bytes.now c.in-Err.rest.now c.in-Err.ensures
