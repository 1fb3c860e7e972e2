-- The reader of numbers from 0 to a greatest one, without leading zeros.
use Rattle.std.specs.Prelude.{ℕ, cond, ◌==◌, [], ◌∷◌, Ok, Err}
use Rattle.u_base.specs.Reader.{Reader}
use Rattle.u_base.specs.Number.{number}

-- `0`, or a number from 1 on
abbrev pub number0 : ℕ → Reader ℕ
number0 max [] = Err []
number0 max (c ∷ cs) = cond (c == 48) (Ok (0, cs)) (number max (c ∷ cs))
