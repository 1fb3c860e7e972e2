-- Lists that rise by an order.
use Rattle.std.specs.Prelude.{◌≡◌, List, [], ◌∷◌, ◌↔◌, Contains}
use Rattle.std.specs.declared.cmp.Ordering.{Ordering}
use Rattle.std.specs.declared.cmp.Ordering.TheVariants.{Less}
use Rattle.std.specs.BTreeSet.{insert_key}

-- each member is below all later ones
abbrev pub Ascending : {X : Type 0} → (X → X → Type 0) → List X → Type 0
Ascending lt [] = Unit {0}
Ascending {X} lt (x ∷ xs) = ((y : X) → Contains xs y → lt x y) × Ascending lt xs

-- each member is below all later ones in that order
abbrev pub Rises : {X : Type 0} → (X → X → Ordering) → List X → Type 0
Rises R xs = Ascending (λ a b. R a b ≡ Less) xs

-- xs is the list, in order, of exactly those with P
pub record IsListOf {X : Type 0} (R : X → X → Ordering) (P : X → Type 0) (xs : List X) : Type 0 where
  pub rises : Rises R xs
  pub exact : (x : X) → Contains xs x ↔ P x

-- the members of a list, each once, in order
abbrev pub in_order : {X : Type 0} → (X → X → Ordering) → List X → List X
in_order R [] = []
in_order R (x ∷ xs) = insert_key R (in_order R xs) x
