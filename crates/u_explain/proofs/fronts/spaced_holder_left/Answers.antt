use Rattle.std.proofs.Common.{codes}
use Rattle.u_explain.specs.declared.fronts.Follows.TheVariants as follows
use Rattle.u_explain.specs.Left.{Numbered, Among}
use Rattle.u_explain.specs.Lines.{FollowOn}
use Rattle.u_explain.proofs.LeftLaws.{word_on, word_stuck}
use Rattle.u_explain.proofs.LineLaws.{some_holder}
use Rattle.u_explain.proofs.fronts.spaced_holder_left.Goals as goal

pub returns-in-Ok : goal.returns-in-Ok
returns-in-Ok c = word_on (codes " ") (Among 0 c.args.number (Numbered (FollowOn follows.End))) (some_holder c.args.number c.requires) c.args.bytes.now c.in-Ok.rest.now c.numbers_left.result.now c.in-Ok.ensures c.numbers_left.ensures

pub returns-in-Err : goal.returns-in-Err
returns-in-Err c = word_stuck (codes " ") (Among 0 c.args.number (Numbered (FollowOn follows.End))) (some_holder c.args.number c.requires) c.args.bytes.now c.in-Err.rest.now c.in-Err.ensures
