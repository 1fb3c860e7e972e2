-- The reader of numbers from 1 to a greatest one, without leading zeros.
use Rattle.std.specs.Prelude.{ℕ, ◌+◌, ◌-◌, ◌*◌, ◌≤◌, Bool, cond, ◌&&◌, nat_le, List, [], ◌∷◌, Ok, Err}
use Rattle.u_base.specs.Reader.{Reader}

-- a byte from `0` to `9`
abbrev pub is_digit : ℕ → Bool
is_digit c = nat_le 48 c && nat_le c 57

-- the longest number in range that goes on from n
abbrev pub digits_from : ℕ → ℕ → List ℕ → ℕ × List ℕ
digits_from max n [] = (n, [])
digits_from max n (c ∷ cs) = cond (is_digit c && nat_le (10 * n + (c - 48)) max) (digits_from max (10 * n + (c - 48)) cs) (n, c ∷ cs)

-- a digit from `1` to `9`, and as many digits behind it as leave the number in range
abbrev pub number : ℕ → Reader ℕ
number max [] = Err []
number max (c ∷ cs) = cond (nat_le 49 c && nat_le c 57) (Ok (digits_from max (c - 48) cs)) (Err (c ∷ cs))

-- a number from 1 to this one
abbrev pub IsUpTo : ℕ → ℕ → Type 0
IsUpTo max n = (1 ≤ n) × (n ≤ max)
