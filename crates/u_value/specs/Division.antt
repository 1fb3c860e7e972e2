-- Division cut toward zero, by its law.
use Rattle.std.specs.Prelude.{◌≡◌, ℤ, pos, ◌+ℤ◌, ◌*ℤ◌, ◌<◌, ◌≤ℤ◌, unsigned_abs}

-- a is so many times b and a rest, smaller than b, which has the sign of a or is 0
pub record IsDivision (a b quotient rest : ℤ) : Type 0 where
  pub whole : quotient *ℤ b +ℤ rest ≡ a
  pub small : unsigned_abs rest < unsigned_abs b
  pub from_zero : pos 0 ≤ℤ a → pos 0 ≤ℤ rest
  pub to_zero : a ≤ℤ pos 0 → rest ≤ℤ pos 0
