-- Masks of 64 bits, in which bit b stands for bucket b.
use Rattle.std.specs.Prelude.{◌≡◌, ◌≢◌, ℕ, ◌<◌, ◌/◌, ◌%◌, ◌^◌, ◌==◌, Bool}

-- whether bucket b is in the mask
abbrev pub in_mask : ℕ → ℕ → Bool
in_mask mask b = (mask / 2 ^ b) % 2 == 1

-- bucket b is in the new mask or not, as `value` says, and each other one is in it as it was in the old one
pub record SetsBit (old b : ℕ) (value : Bool) (new : ℕ) : Type 0 where
  pub changed : in_mask new b ≡ value
  pub others : (i : ℕ) → i < 64 → i ≢ b → in_mask new i ≡ in_mask old i
