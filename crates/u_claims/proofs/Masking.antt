-- Masks of buckets, and seats that hold none.
use Rattle.std.proofs.Common.{◌≡◌, ◌<◌, ℕ, Bool, true, false, List, ◌*◌, ◌-◌, ◌%◌, ◌^◌, bit_and, bit_or, w64, length, slice_index_or, sym, ap, ◌∙◌}
use Rattle.std.specs.Prelude.{◌==◌}
use Rattle.std.proofs.lemmas.List.{get_or-replicate, length-replicate, ext_get_or}
use Rattle.std.proofs.lemmas.Nat.Bits.{bit_at-zero, bit_at_set_same, bit_at_set_other, bit_at_clear_same, bit_at_clear_other}
use Rattle.u_claims.specs.declared.rule.Hand.{Hand}
use Rattle.u_claims.specs.Masks.{SetsBit}
use Rattle.u_claims.specs.Held.{hand, none_held, has_bucket, IsMaskOf}
use Rattle.u_claims.specs.Answers.{HoldsNone}

-- a bit is set
pub set_in : (mask b : ℕ) → b < 64 → SetsBit mask b true (bit_or mask (1 * 2 ^ b % 2 ^ 64))
set_in mask b small = record { changed = ap (λ n. n == 1) (bit_at_set_same w64 mask b small); others = λ i within apart. ap (λ n. n == 1) (bit_at_set_other w64 mask b small i apart) }

-- a bit is cleared
pub set_out : (mask b : ℕ) → b < 64 → SetsBit mask b false (bit_and mask (2 ^ 64 - 1 - 1 * 2 ^ b % 2 ^ 64))
set_out mask b small = record { changed = ap (λ n. n == 1) (bit_at_clear_same w64 mask b small); others = λ i within apart. ap (λ n. n == 1) (bit_at_clear_other w64 mask b small i within apart) }

-- no bucket is in the mask 0
pub none_masked : (seats number : ℕ) → IsMaskOf 0 (hand seats number none_held)
none_masked seats number b small = ap (λ n. n == 1) (bit_at-zero b) ∙ sym (get_or-replicate 64 b false false small)

-- where none of the 64 buckets is held, the list says so
pub all_free : (held : List Bool) → length held ≡ 64 → ((b : ℕ) → b < 64 → slice_index_or held b false ≡ false) → held ≡ none_held
all_free held long free =
    ext_get_or false held none_held (long ∙ sym (length-replicate 64 false))
    (λ b within. let small : b < 64 = rw (← long) within in free b small ∙ sym (get_or-replicate 64 b false false small))

-- a seat that keeps its number and holds none of the 64 buckets
pub emptied : (old new : Hand) → new.seats ≡ old.seats → new.number ≡ old.number → length new.held ≡ 64 → ((b : ℕ) → b < 64 → has_bucket new b ≡ false) → HoldsNone old new
emptied old new seats number long free = λ i. hand (seats i) (number i) (all_free new.held long free i)
