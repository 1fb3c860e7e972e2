-- Masks of shares, and seats that claim them.
use Rattle.std.proofs.Common.{◌≡◌, ◌≢◌, ◌/◌, ◌^◌, ℕ, ◌<◌, ◌≤◌, ◌+◌, ◌-◌, ◌%◌, ◌⊎◌, ap, inl, inr, refl, true, false, length, bit_and, sym, subst, ◌∙◌, arith}
use Rattle.std.specs.Prelude.{◌==◌, IsTrue}
use Rattle.std.proofs.lemmas.Bool.{eq-eqb, eqb-true, ne_eqb}
use Rattle.std.proofs.lemmas.List.{get_or-set_same, get_or-set_other}
use Rattle.std.proofs.lemmas.Nat.Bits.{bit_at_and, bit_at-lt, bit_at-zero}
use Rattle.u_machine.proofs.Lists.{le_split}
use Rattle.u_claims.specs.Masks.{in_mask, SetsBit}
use Rattle.u_claims.specs.Held.{has_bucket, IsMaskOf}
use Rattle.u_claims.specs.Answers.{ClaimAnswer}
use Rattle.u_claims.specs.declared.rule.Hand.{Hand}
use Rattle.u_claims.specs.declared.answer.Claimed.{Claimed}
use Rattle.u_claims.specs.declared.answer.Claimed.TheVariants.{Held, Busy}
use Rattle.u_fleet.specs.Shares.{IsPartOf, KeepsNumber, HasOther, ClaimsBelow, LeavesToOthers}

module _ (a b i : ℕ) where
  in_both : IsTrue (in_mask a i) → IsTrue (in_mask b i) → IsTrue (in_mask (bit_and a b) i)
  in_both p q = eq-eqb _ _ (omega (arith, bit_at_and a b i, eqb-true _ _ p, eqb-true _ _ q))

  in_each : IsTrue (in_mask (bit_and a b) i) → IsTrue (in_mask a i) × IsTrue (in_mask b i)
  in_each p =
      let both = bit_at_and a b i in
      let one = eqb-true _ _ p in
      (eq-eqb _ _ (omega (arith, both, one, bit_at-lt a i, bit_at-lt b i)), eq-eqb _ _ (omega (arith, both, one, bit_at-lt a i, bit_at-lt b i)))

-- what the seat's mask has in common with the share
pub held_in_share : (mask share : ℕ) → IsPartOf (bit_and mask share) share
held_in_share mask share b small inside = (in_each mask share b inside).1

-- what the seat does not hold of its share once it has claimed it
pub leaves_rest : (mask share : ℕ) (old v : Hand) → IsMaskOf mask v → ClaimsBelow 64 share old v → LeavesToOthers old share (bit_and mask share)
leaves_rest mask share old v is claims b small inside =
    elim (claims b small inside) [ inl h ↦ inl (in_both mask share b (is b small ∙ h) inside) | inr o ↦ inr o ]

pub keeps_number : (old new : Hand) (b : ℕ) (r : Claimed) → ClaimAnswer old b r new → KeepsNumber old new
keeps_number old new b Held a = rw a (refl, refl)
keeps_number old new b (Busy owner) (free, other, same) = rw same (refl, refl)

-- one more bucket is claimed
pub claims_more : (first old new : Hand) (share b : ℕ) (r : Claimed) → b < length old.held → KeepsNumber first old → ClaimAnswer old b r new → ClaimsBelow b share first old → ClaimsBelow (b + 1) share first new
claims_more first old new share b Held small keeps a below i within inside = over (le_split i b (omega (arith, within)))
  where
    over : (i ≡ b) ⊎ (i < b) → IsTrue (has_bucket new i) ⊎ HasOther first
    over (inl e) = inl (rw (a, e) (get_or-set_same old.held b true false small))
    over (inr less) = over_held (below i less inside)
      where
        over_held : IsTrue (has_bucket old i) ⊎ HasOther first → IsTrue (has_bucket new i) ⊎ HasOther first
        over_held (inl h) = inl (rw a (get_or-set_other old.held b i true false (λ e. omega (arith, less, e)) ∙ h))
        over_held (inr o) = inr o
claims_more first old new share b (Busy owner) small keeps (free, other, same) below i within inside = over (le_split i b (omega (arith, within)))
  where
    over : (i ≡ b) ⊎ (i < b) → IsTrue (has_bucket new i) ⊎ HasOther first
    over (inl e) = inr (owner, rw (keeps.0, keeps.1) at other)
    over (inr less) = rw same (below i less inside)

-- a bucket that is none of the share is passed over
pub claims_passed : (first old : Hand) (share b : ℕ) → in_mask share b ≡ false → ClaimsBelow b share first old → ClaimsBelow (b + 1) share first old
claims_passed first old share b none below i within inside = over (le_split i b (omega (arith, within)))
  where
    over : (i ≡ b) ⊎ (i < b) → IsTrue (has_bucket old i) ⊎ HasOther first
    over (inl e) = let bad : true ≡ false = sym inside ∙ subst (λ (k : ℕ). in_mask share k ≡ false) (sym e) none in cc
    over (inr less) = below i less inside

-- the mask has those buckets of the share that are below that one
pub record IsShareBelow (end worker workers round mask : ℕ) : Type 0 where
  pub below : (b : ℕ) → b < end → in_mask mask b ≡ ((b + round) % workers == worker - 1)
  pub above : (b : ℕ) → b < 64 → end ≤ b → in_mask mask b ≡ false

pub share_none : (worker workers round : ℕ) → IsShareBelow 0 worker workers round 0
share_none worker workers round = record { below = λ b less. absurd (omega (arith, less)); above = λ b small from. ap (λ n. n == 1) (bit_at-zero b) }

module _ (end worker workers round mask : ℕ) (is : IsShareBelow end worker workers round mask) (small : end < 64) where
  -- one that is not the worker's is left out
  pub share_without : ((end + round) % workers == worker - 1) ≡ false → IsShareBelow (end + 1) worker workers round mask
  share_without out = record {
    below = λ b less. elim (le_split b end (omega (arith, less))) [
      | inl e ↦ rw e (is.above end small (omega arith) ∙ sym out)
      | inr under ↦ is.below b under
    ];
    above = λ b within from. is.above b within (omega (arith, from));
  }

  -- one that is the worker's is put in
  pub share_with : (new : ℕ) → SetsBit mask end true new → ((end + round) % workers == worker - 1) ≡ true → IsShareBelow (end + 1) worker workers round new
  share_with new set turn = record {
    below = λ b less. elim (le_split b end (omega (arith, less))) [
      | inl e ↦ rw e (set.changed ∙ sym turn)
      | inr under ↦ set.others b (omega (arith, under, small)) (λ e. omega (arith, under, e)) ∙ is.below b under
    ];
    above = λ b within from. set.others b within (λ e. omega (arith, from, e)) ∙ is.above b within (omega (arith, from));
  }

pub out_of_mask : (mask b : ℕ) → mask / 2 ^ b % 2 ≢ 1 → in_mask mask b ≡ false
out_of_mask mask b apart = ne_eqb (mask / 2 ^ b % 2) 1 apart
