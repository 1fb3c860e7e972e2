use Rattle.u_pictures.proofs.Joined.{lives_more}
use Rattle.u_pictures.proofs.picture.push_lives.Goals as goal

pub loop-before-preserved : goal.loop-before-preserved
loop-before-preserved c =
    lives_more c.args.last c.loop-before.before c.args.out.now.items c.loop-before.out.items c.push_life.new.out.items
    c.loop-before.invariant c.in_ok-push_life.ensures
