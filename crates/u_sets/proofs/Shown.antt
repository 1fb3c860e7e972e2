-- What an iterator of a set shows.
use Rattle.std.proofs.Common.{◌≡◌, List, [], ◌∷◌, map, ◌++◌, ◌∙◌, ap, append-nil}
use Rattle.std.specs.Borrow.{Bor}
use Rattle.std.specs.Iterator.{Yields}
use Rattle.std.specs.Map.Iter.{TakesFirst, deref}

-- an iterator of a set gives its entries
module _ {X : Type 0} where
  pub shown : (xs : List (Bor X)) (s t : List X) → Yields (TakesFirst (deref {X = X})) s xs t → s ≡ map (deref {X = X}) xs ++ t
  shown [] s t y = y
  shown (x ∷ xs) s t (j, step, y) = step ∙ ap (λ (r : List X). x.now ∷ r) (shown xs j t y)

  pub shown_all : (xs : List (Bor X)) (s t : List X) → Yields (TakesFirst (deref {X = X})) s xs t → t ≡ [] → s ≡ map (deref {X = X}) xs
  shown_all xs s t y e = shown xs s t y ∙ ap (λ (r : List X). map (deref {X = X}) xs ++ r) e ∙ append-nil (map (deref {X = X}) xs)
