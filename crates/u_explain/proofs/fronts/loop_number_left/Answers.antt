use Rattle.std.proofs.Common.{codes}
use Rattle.std.specs.Fmt.{decimal}
use Rattle.u_explain.specs.declared.fronts.Follows.TheVariants as follows
use Rattle.u_explain.specs.Left.{Numbered, Among}
use Rattle.u_explain.specs.Lines.{FollowOn}
use Rattle.u_explain.proofs.LeftLaws.{word_on, word_stuck}
use Rattle.u_explain.proofs.LineLaws.{HolderBy, some_behind, some_holder}
use Rattle.u_explain.proofs.fronts.loop_number_left.Goals as goal

pub returns-in-Ok : goal.returns-in-Ok
returns-in-Ok c = word_on (decimal c.args.number) (HolderBy c.args.number) (some_behind (codes " ") (Among 0 c.args.number (Numbered (FollowOn follows.End))) (some_holder c.args.number c.requires)) c.args.bytes.now c.in-Ok.rest.now c.spaced_holder_left.result.now c.in-Ok.ensures c.spaced_holder_left.ensures

pub returns-in-Err : goal.returns-in-Err
returns-in-Err c = word_stuck (decimal c.args.number) (HolderBy c.args.number) (some_behind (codes " ") (Among 0 c.args.number (Numbered (FollowOn follows.End))) (some_holder c.args.number c.requires)) c.args.bytes.now c.in-Err.rest.now c.in-Err.ensures
