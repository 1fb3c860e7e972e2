use Rattle.u_pictures.specs.Picture.{firing_lines}
use Rattle.u_pictures.proofs.Shows.{flat_more, lent_more}
use Rattle.u_pictures.proofs.firings.push_firings.Goals as goal

pub loop-firing-preserved : goal.loop-firing-preserved
loop-firing-preserved c =
    let fs = c.args.firings.now in
    let i = c.loop-firing.firing-index in
    let f = c.firing-item.result in
    flat_more (firing_lines c.args.origins.now c.args.program.now) fs i f c.args.out.now.items c.loop-firing.out.items c.push_firing.new.out.items
    (lent_more fs i f c.loop-firing-test.true c.firing-item.is)
    c.loop-firing.invariant c.in_ok-push_firing.ensures.ok
