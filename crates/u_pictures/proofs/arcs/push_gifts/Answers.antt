use Rattle.u_pictures.specs.Picture.{give_arc}
use Rattle.u_pictures.proofs.Shows.{mapped_more, lent_more}
use Rattle.u_pictures.proofs.arcs.push_gifts.Goals as goal

pub loop-entry-preserved : goal.loop-entry-preserved
loop-entry-preserved c =
    let es = c.args.entries.now in
    let i = c.loop-entry.entry-index in
    let e = c.entry-item.result in
    mapped_more (give_arc c.args.program.now.blocks c.args.firing.now) es i e c.args.out.now.items c.loop-entry.out.items c.push_gift.new.out.items
    (lent_more es i e c.loop-entry-test.true c.entry-item.is)
    c.loop-entry.invariant c.in_ok-push_gift.ensures.ok
