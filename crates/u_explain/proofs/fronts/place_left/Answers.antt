use Rattle.std.proofs.Common.{codes, arith}
use Rattle.u_program.specs.declared.program.Version.TheVariants as versions
use Rattle.u_explain.specs.declared.fronts.Follows.TheVariants as follows
use Rattle.u_explain.specs.Left.{Numbered, Among}
use Rattle.u_explain.specs.Lines.{FollowOn}
use Rattle.u_explain.proofs.LeftLaws.{word_on, word_stuck}
use Rattle.u_explain.proofs.LineLaws.{some_follow, some_among}
use Rattle.u_explain.proofs.fronts.place_left.Goals as goal

pub returns-in-Ok : goal.returns-in-Ok
returns-in-Ok c = word_on (codes "param ") (Among 2 5 (Numbered (FollowOn (follows.List versions.Two)))) (some_among 2 5 (FollowOn (follows.List versions.Two)) (omega arith) (some_follow (follows.List versions.Two))) c.args.bytes.now c.in-Ok.rest.now c.numbers_left.result.now c.in-Ok.ensures c.numbers_left.ensures

pub returns-in-Err : goal.returns-in-Err
returns-in-Err c = word_stuck (codes "param ") (Among 2 5 (Numbered (FollowOn (follows.List versions.Two)))) (some_among 2 5 (FollowOn (follows.List versions.Two)) (omega arith) (some_follow (follows.List versions.Two))) c.args.bytes.now c.in-Err.rest.now c.in-Err.ensures
