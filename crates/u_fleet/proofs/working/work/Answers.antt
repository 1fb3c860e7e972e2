use Rattle.u_claims.specs.Seats.{view_of}
use Rattle.u_fleet.proofs.Sharing.{held_in_share, leaves_rest}
use Rattle.u_fleet.proofs.Firings.{held_gains, held_full}
use Rattle.u_fleet.proofs.working.work.Goals as goal

pub returns-clause-answer : goal.returns-clause-answer
returns-clause-answer c = (
  _,
  held_in_share c.held.result c.args.share,
  leaves_rest c.held.result c.args.share (view_of c.args.seat.now) (view_of c.claim_share.new.seat) c.held.ensures c.claim_share.ensures.claims,
  c.fire_held-done.ensures.answer,
)

pub returns-clause-gains : goal.returns-clause-gains
returns-clause-gains c = held_gains _ _ _ _ _ c.fire_held-done.ensures.answer

pub returns-clause-full : goal.returns-clause-full
returns-clause-full c = held_full _ _ _ _ _ c.holds.ensures.is.machine c.fire_held-done.ensures.answer
