-- Shares of the 64 buckets: masks in which bit b stands for bucket b.
use Rattle.std.specs.Prelude.{◌≡◌, ℕ, ◌+◌, ◌-◌, ◌<◌, ◌%◌, ◌==◌, ◌⊎◌, IsTrue}
use Rattle.u_claims.specs.Masks.{in_mask}
use Rattle.u_claims.specs.Held.{has_bucket, IsOther}
use Rattle.u_claims.specs.declared.rule.Hand.{Hand}

-- each bucket of the first mask is one of the second
abbrev pub IsPartOf : ℕ → ℕ → Type 0
IsPartOf part whole = (b : ℕ) → b < 64 → IsTrue (in_mask part b) → IsTrue (in_mask whole b)

-- the mask has the buckets of one worker, of so many that are numbered from 1, in a round: each bucket is one worker's in each round
abbrev pub IsShareOf : ℕ → ℕ → ℕ → ℕ → Type 0
IsShareOf worker workers round mask = (b : ℕ) → b < 64 → in_mask mask b ≡ ((b + round) % workers == worker - 1)

-- the seat keeps its number, and its board's number of seats
abbrev pub KeepsNumber : Hand → Hand → Type 0
KeepsNumber old new = (new.seats ≡ old.seats) × (new.number ≡ old.number)

-- the board of the seat has another one
abbrev pub HasOther : Hand → Type 0
HasOther v = (number : ℕ) × IsOther v number

-- each bucket of the share below that one is held, unless the board has another seat, which may hold it
abbrev pub ClaimsBelow : ℕ → ℕ → Hand → Hand → Type 0
ClaimsBelow end share old new = (b : ℕ) → b < end → IsTrue (in_mask share b) → IsTrue (has_bucket new b) ⊎ HasOther old

-- each bucket of the share is in the mask of those held, unless the board has another seat, which may hold it
abbrev pub LeavesToOthers : Hand → ℕ → ℕ → Type 0
LeavesToOthers old share held = (b : ℕ) → b < 64 → IsTrue (in_mask share b) → IsTrue (in_mask held b) ⊎ HasOther old
