use Rattle.u_pictures.proofs.Shows.{lent_more}
use Rattle.u_pictures.proofs.Joined.{events_more}
use Rattle.u_pictures.proofs.picture.push_events.Goals as goal

pub loop-place-preserved : goal.loop-place-preserved
loop-place-preserved c =
    let hs = c.args.happenings.now in
    let i = c.loop-place.place in
    let h = c.index-happenings-place.result in
    events_more hs i h c.args.out.now.items c.loop-place.out.items c.push_event.new.out.items
    c.loop-place-test.true (lent_more hs i h c.loop-place-test.true c.index-happenings-place.is)
    c.loop-place.invariant c.in_ok-push_event.ensures
