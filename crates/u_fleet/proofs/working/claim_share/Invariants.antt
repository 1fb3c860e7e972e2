use Rattle.u_claims.specs.Seats.{view_of, IsSeatOf}
use Rattle.u_fleet.specs.Shares.{KeepsNumber, ClaimsBelow}
use Rattle.u_fleet.proofs.working.claim_share.Given as goal

abbrev pub invariant-loop-bucket : goal.invariant-loop-bucket
invariant-loop-bucket l = record {
  board : IsSeatOf l.board l.seat;
  number : KeepsNumber (view_of l.initial.seat) (view_of l.seat);
  claims : ClaimsBelow l.bucket l.share (view_of l.initial.seat) (view_of l.seat);
}
