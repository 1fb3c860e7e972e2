use Rattle.u_pictures.proofs.Going.{goes}
use Rattle.u_pictures.proofs.living.happen.Goals as goal

pub returns-in-Ok : goal.returns-in-Ok
returns-in-Ok c =
    goes c.args.world.now c.run.new.self c.holds.ensures.is c.args.sent.now c.requires c.args.event.now c.from_ref.result.now c.from_ref.ensures.value c.in_ok-run.ensures.answer
    c.doer-replica.result c.doer-replica.ensures c.in-Some.before.applied c.in-Some.before.taken c.in-Some-stock_of.after.taken
    (λ h. (c.in-Some.ensures h).0) (λ h. (c.in-Some.ensures h).1) (λ h. (c.in-Some-stock_of.ensures h).1) _ c.logged-first.ensures c.in-Ok.deed c.in-Ok.ensures
