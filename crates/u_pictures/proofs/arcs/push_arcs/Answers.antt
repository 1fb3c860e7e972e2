use Rattle.u_pictures.specs.Picture.{firing_arcs}
use Rattle.u_pictures.proofs.Shows.{flat_more, lent_more}
use Rattle.u_pictures.proofs.arcs.push_arcs.Goals as goal

pub loop-firing-preserved : goal.loop-firing-preserved
loop-firing-preserved c =
    let fs = c.args.firings.now in
    let i = c.loop-firing.firing-index in
    let f = c.firing-item.result in
    flat_more (firing_arcs c.args.job.now) fs i f c.args.out.now.items c.loop-firing.out.items c.push_firing_arcs.new.out.items
    (lent_more fs i f c.loop-firing-test.true c.firing-item.is)
    c.loop-firing.invariant c.in_ok-push_firing_arcs.ensures.ok
