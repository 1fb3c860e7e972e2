use Rattle.std.proofs.Common.{◌≡◌, ◌<◌, ◌+◌, ◌-◌, ◌%◌, arith}
use Rattle.std.proofs.lemmas.Bool.{eq-eqb, ne_eqb}
use Rattle.u_claims.proofs.Masking.{set_in}
use Rattle.u_fleet.proofs.Sharing.{share_with, share_without}
use Rattle.u_fleet.proofs.shares.share_of.Goals as goal
use Rattle.u_fleet.proofs.shares.share_of.Goals.{then-turn-from, else-turn-from}

pub loop-bucket-preserved : goal.loop-bucket-preserved
loop-bucket-preserved c =
    let b = c.loop-bucket.bucket in
    let mask = c.loop-bucket.mask in
    let kept = c.loop-bucket.invariant in
    let small : c.loop-bucket.bucket < 64 = omega arith in
    elim c.if-turn-from.branch [
      | then-turn-from w ↦ rw w.mask-is (
          let turn : (c.loop-bucket.bucket + c.args.round) % c.args.workers ≡ c.args.worker - 1 = cc (w.if-turn-from.true) in
          share_with b c.args.worker c.args.workers c.args.round mask kept small _ (set_in mask b small) (eq-eqb _ _ turn)
          )
      | else-turn-from w ↦ rw w.mask-is (
          let turn : ((c.loop-bucket.bucket + c.args.round) % c.args.workers ≡ c.args.worker - 1) → ⊥ = λ e. w.if-turn-from.false (cc e) in
          share_without b c.args.worker c.args.workers c.args.round mask kept small (ne_eqb _ _ turn)
          )
    ]
