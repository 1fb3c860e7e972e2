use Rattle.std.proofs.Common.{arith, sym, ◌∙◌}
use Rattle.u_claims.proofs.BucketSteps.{claims}
use Rattle.u_claims.proofs.seats.Board.claim.Goals as goal

pub compare_exchange-found-requires : goal.compare_exchange-found-requires
compare_exchange-found-requires c =
    let seat = c.args.seat.now in
    (c.requires.board, rw c.args.self.now.wide (omega (arith, c.requires.bucket)), claims _ _ _ _ _ _ c.requires.bucket (omega (arith, seat.numbered.0)) seat.number_known (sym c.has.ensures ∙ c.if-has.false))
