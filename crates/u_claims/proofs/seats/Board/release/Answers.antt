use Rattle.std.proofs.Common.{arith, sym, ◌∙◌}
use Rattle.u_claims.proofs.BucketSteps.{releases}
use Rattle.u_claims.proofs.seats.Board.release.Goals as goal

pub compare_exchange-seat-requires : goal.compare_exchange-seat-requires
compare_exchange-seat-requires c =
    let seat = c.args.seat.now in
    (c.requires.board, rw c.args.self.now.wide (omega (arith, c.requires.bucket)), releases _ _ _ _ _ _ c.requires.bucket seat.number_known (sym c.has.ensures ∙ c.if-not-has.false))
