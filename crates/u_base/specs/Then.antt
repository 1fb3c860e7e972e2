-- Two readers one after another, the second depending on what the first gave.
use Rattle.std.specs.Prelude.{Ok}
use Rattle.u_base.specs.Reader.{Reader, ◌>>=◌}

-- both values are valid, the second beside the first
abbrev pub AreBoth : {X Y : Type 0} → (X → Type 0) → (X → Y → Type 0) → X × Y → Type 0
AreBoth V W z = V z.0 × W z.0 z.1

-- the first, and behind it the second
abbrev pub both : {X Y : Type 0} → Reader X → (X → Reader Y) → Reader (X × Y)
both P Q bs = P bs >>= λ a. Q a.0 a.1 >>= λ b. Ok ((a.0, b.0), b.1)
