use Rattle.std.proofs.Common.{◌≡◌, ◌<◌, ℕ, false}
use Rattle.u_claims.specs.Held.{has_bucket}
use Rattle.u_claims.specs.Seats.{view_of, IsSeatOf}
use Rattle.u_claims.proofs.seats.Board.release_all.Given as goal

abbrev pub invariant-loop-bucket : goal.invariant-loop-bucket
invariant-loop-bucket l = IsSeatOf l.self l.seat × ((view_of l.seat).seats ≡ (view_of l.initial.seat).seats) × ((view_of l.seat).number ≡ (view_of l.initial.seat).number)
    × ((b : ℕ) → b < l.bucket → has_bucket (view_of l.seat) b ≡ false)
