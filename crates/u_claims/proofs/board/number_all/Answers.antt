use Rattle.std.proofs.Common.{arith, ap}
use Rattle.u_claims.proofs.SeatSteps.{splits}
use Rattle.u_claims.proofs.board.number_all.Goals as goal

pub split_seat-seat-requires : goal.split_seat-seat-requires
split_seat-seat-requires c = (c.loop-drawn.invariant.0, rw c.args.board.now.wide (omega arith), splits _ _ _ (ap (λ m. m.0.number) c.loop-drawn.invariant.1))
