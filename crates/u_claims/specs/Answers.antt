-- What each call on a bucket answers, and what it makes of the seat's view.
use Rattle.std.specs.Prelude.{◌≡◌, ℕ, true, false}
use Rattle.u_claims.specs.declared.rule.Hand.{Hand}
use Rattle.u_claims.specs.declared.answer.Claimed.{Claimed}
use Rattle.u_claims.specs.declared.answer.Claimed.TheVariants.{Held, Busy}
use Rattle.u_claims.specs.declared.answer.Released.{Released}
use Rattle.u_claims.specs.declared.answer.Released.TheVariants.{Done, NotMine}
use Rattle.u_claims.specs.Held.{hand, none_held, has_bucket, with_bucket, without_bucket, IsOther}

-- the seat holds the bucket now; or it did not hold it, the number of another seat stood in its word, and nothing changed
abbrev pub ClaimAnswer : Hand → ℕ → Claimed → Hand → Type 0
ClaimAnswer old b Held new = new ≡ with_bucket old b
ClaimAnswer old b (Busy owner) new = (has_bucket old b ≡ false) × IsOther old owner × (new ≡ old)

-- the seat held the bucket, and holds it no longer; or it did not hold it, and nothing changed
abbrev pub ReleaseAnswer : Hand → ℕ → Released → Hand → Type 0
ReleaseAnswer old b Done new = (has_bucket old b ≡ true) × (new ≡ without_bucket old b)
ReleaseAnswer old b NotMine new = (has_bucket old b ≡ false) × (new ≡ old)

-- the seat keeps its number, and holds nothing
abbrev pub HoldsNone : Hand → Hand → Type 0
HoldsNone old new = new ≡ hand old.seats old.number none_held
