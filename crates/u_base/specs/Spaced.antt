-- Words, each behind a space, and lines, each with a newline behind it.
use Rattle.std.specs.Prelude.{ℕ, List, [], ◌∷◌, ◌++◌}

-- words, each behind a space
abbrev pub spaced : List (List ℕ) → List ℕ
spaced [] = []
spaced (w ∷ ws) = 32 ∷ (w ++ spaced ws)

-- lines, each with a newline behind it
abbrev pub ended : List (List ℕ) → List ℕ
ended [] = []
ended (l ∷ ls) = l ++ (10 ∷ ended ls)
