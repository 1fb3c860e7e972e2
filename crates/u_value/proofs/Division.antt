-- The quotient and the rest of std keep the law of division.
use Rattle.std.proofs.Common.{◌≡◌, ℤ, pos, negsuc, ◌≤ℤ◌, ◌<◌, int_div, int_rem, unsigned_abs, arith}
use Rattle.std.proofs.lemmas.Int.{ints, quot-rem, rem_below}
use Rattle.u_value.specs.Division.{IsDivision}

rest_from_zero : (a b : ℤ) → pos 0 ≤ℤ a → pos 0 ≤ℤ int_rem a b
rest_from_zero (pos a) b h = omega (arith, ints)
rest_from_zero (negsuc a) b h = absurd (omega (arith, ints))

rest_to_zero : (a b : ℤ) → a ≤ℤ pos 0 → int_rem a b ≤ℤ pos 0
rest_to_zero (pos a) b h = omega (arith, ints)
rest_to_zero (negsuc a) b h = omega (arith, ints)

not_nothing : (b : ℤ) → (b ≡ pos 0 → ⊥) → 0 < unsigned_abs b
not_nothing (pos b) h = omega (arith, ints)
not_nothing (negsuc b) h = omega (arith, ints)

pub divides : (a b : ℤ) → (b ≡ pos 0 → ⊥) → IsDivision a b (int_div a b) (int_rem a b)
divides a b h = record {
  whole = quot-rem a b;
  small = rem_below a b (not_nothing b h);
  from_zero = rest_from_zero a b;
  to_zero = rest_to_zero a b;
}
