-- Lists that begin with others: the rule over a published list.
use Rattle.std.specs.Prelude.{◌≡◌, ℕ, List, [], ◌∷◌, ◌++◌, length, if◌then◌else◌, nat_lt}
use mathlib.Core.Option.{some}
use lib.ListN.{get_elem?}

module _ {X : Type 0} where
  abbrev pub StartsWith : List X → List X → Type 0
  StartsWith whole front = (rest : List X) × (whole ≡ front ++ rest)

  -- the rule: what is published begins with what each seat knows of it
  abbrev pub StartsWithEach : List X → List (List X) → Type 0
  StartsWithEach published known = (seat : ℕ) (front : List X) → get_elem? known seat ≡ some front → StartsWith published front

  -- the batches one after another
  abbrev pub joined : List (List X) → List X
  joined [] = []
  joined (batch ∷ batches) = batch ++ joined batches

  -- the second list where it is longer, and else the first
  abbrev pub longer : List X → List X → List X
  longer xs ys = if nat_lt (length xs) (length ys) then ys else xs
