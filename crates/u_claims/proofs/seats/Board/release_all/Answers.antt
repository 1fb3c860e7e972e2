use Rattle.std.proofs.Common.{◌≡◌, ◌<◌, ℕ, false, arith}
use Rattle.u_claims.specs.Held.{has_bucket}
use Rattle.u_claims.specs.Seats.{view_of}
use Rattle.u_claims.proofs.Masking.{emptied}
use Rattle.u_claims.proofs.seats.Board.release_all.Goals as goal

pub returns-clause-empty : goal.returns-clause-empty
returns-clause-empty c =
    let kept = c.loop-bucket.invariant in
    let seat = c.loop-bucket.seat in
    let free : (b : ℕ) → b < 64 → has_bucket (view_of seat) b ≡ false = λ b small. kept.3 b (omega (arith, small, c.loop-bucket.auto.bucket-end, c.loop-bucket-test.false)) in
    emptied (view_of c.args.seat.now) (view_of seat) kept.1 kept.2 seat.wide free
