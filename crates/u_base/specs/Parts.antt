-- The smallest readers: of nothing, of one byte, and of a byte before what another reader reads.
use Rattle.std.specs.Prelude.{ℕ, cond, ◌==◌, [], ◌∷◌, Ok, Err}
use Rattle.u_base.specs.Reader.{Reader, ◌>>=◌}

-- nothing
abbrev pub empty : {X : Type 0} → X → Reader X
empty x bs = Ok (x, bs)

-- this byte
abbrev pub after_byte : ℕ → Reader (Unit {0})
after_byte c [] = Err []
after_byte c (b ∷ bs) = cond (b == c) (Ok (tt, bs)) (Err (b ∷ bs))

-- this byte, and what the other reader reads behind it
abbrev pub lead : {X : Type 0} → ℕ → Reader X → Reader X
lead c P bs = after_byte c bs >>= λ a. P a.1
