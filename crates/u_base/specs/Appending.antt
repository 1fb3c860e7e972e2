-- What a writer that may fail leaves in a list: the list begins with what it was.
use Rattle.std.specs.Prelude.{◌≡◌, ℕ, List, ◌++◌}

-- the list begins with what it was
pub record Extends (old new : List ℕ) : Type 0 where
  pub more : List ℕ
  pub there : new ≡ old ++ more
