-- The reader of bytes that are given.
use Rattle.std.specs.Prelude.{◌≡◌, ℕ, List, [], ◌∷◌}
use Rattle.u_base.specs.Reader.{Reader}
use Rattle.u_base.specs.Parts.{empty, lead}

-- these bytes
abbrev pub fixed : List ℕ → Reader (Unit {0})
fixed [] = empty tt
fixed (c ∷ cs) = lead c (fixed cs)

-- it is the one value of its type
abbrev pub IsUnit : Unit {0} → Type 0
IsUnit z = z ≡ tt
