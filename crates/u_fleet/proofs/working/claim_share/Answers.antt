use Rattle.std.proofs.Common.{◌<◌, arith, length, ◌∙◌}
use Rattle.u_claims.specs.Seats.{view_of}
use Rattle.u_fleet.proofs.Sharing.{keeps_number, claims_more, claims_passed, out_of_mask}
use Rattle.u_fleet.proofs.working.claim_share.Goals as goal
use Rattle.u_fleet.proofs.working.claim_share.Goals.{then-share-bucket-eq1, else-share-bucket-eq1}

pub loop-bucket-preserved : goal.loop-bucket-preserved
loop-bucket-preserved c =
    let kept = c.loop-bucket.invariant in
    let first = view_of c.args.seat.now in
    let old = view_of c.loop-bucket.seat in
    elim c.if-share-bucket-eq1.branch [
      | then-share-bucket-eq1 w ↦ rw w.seat-is (
          let new = view_of w.claim.new.seat in
          let here : c.loop-bucket.bucket < length old.held = rw c.loop-bucket.seat.wide (omega arith) in
          let keeps = keeps_number old new c.loop-bucket.bucket w.claim.result w.claim.ensures.answer in
          record {
            board = w.claim.ensures.board;
            number = (keeps.0 ∙ kept.number.0, keeps.1 ∙ kept.number.1);
            claims = claims_more first old new c.args.share c.loop-bucket.bucket w.claim.result here kept.number w.claim.ensures.answer kept.claims;
          }
          )
      | else-share-bucket-eq1 w ↦ rw w.seat-is (
          record { board = kept.board; number = kept.number; claims = claims_passed first old c.args.share c.loop-bucket.bucket (out_of_mask c.args.share c.loop-bucket.bucket w.if-share-bucket-eq1.false) kept.claims }
          )
    ]
