-- The reader of signed numbers of 64 bits: no leading zeros, no plus, and no minus before zero.
use Rattle.std.specs.Prelude.{◌-◌, ◌^◌, cond, ◌==◌, [], ◌∷◌, Err}
use lib.IntN.{ℤ, pos, negsuc}
use Rattle.u_base.specs.Reader.{Reader}
use Rattle.u_base.specs.Choice.{mapped}
use Rattle.u_base.specs.Number.{number}
use Rattle.u_base.specs.FromZero.{number0}

-- the number below 0 whose digits without the minus stand at the front, down to -2^63
abbrev pub below_zero : Reader ℤ
below_zero = mapped (λ n. negsuc (n - 1)) (number (2 ^ 63))

-- the number from 0 on, up to 2^63 - 1
abbrev pub from_zero : Reader ℤ
from_zero = mapped pos (number0 (2 ^ 63 - 1))

-- behind a minus a number below 0, elsewhere one from 0 on
abbrev pub signed : Reader ℤ
signed [] = Err []
signed (c ∷ cs) = cond (c == 45) (below_zero cs) (from_zero (c ∷ cs))
