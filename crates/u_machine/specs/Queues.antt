-- Priority queues: where an item goes.
use Rattle.std.specs.Prelude.{◌≡◌, List, [], ◌∷◌, ◌++◌, Contains}
use Rattle.std.specs.declared.cmp.Ordering.{Ordering}
use Rattle.std.specs.declared.cmp.Ordering.TheVariants.{Less}
use Rattle.u_machine.specs.declared.priority_queue.Position.{Position}
use Rattle.u_machine.specs.declared.priority_queue.Position.TheVariants as positions

-- x is less than each of the list
abbrev pub IsBelow : {X : Type 0} → (X → X → Ordering) → X → List X → Type 0
IsBelow {X} R x ys = (y : X) → Contains ys y → R x y ≡ Less

-- x is greater than each of the list
abbrev pub IsAbove : {X : Type 0} → (X → X → Ordering) → X → List X → Type 0
IsAbove {X} R x ys = (y : X) → Contains ys y → R y x ≡ Less

-- x is less than one of the list
abbrev pub IsBelowSome : {X : Type 0} → (X → X → Ordering) → X → List X → Type 0
IsBelowSome {X} R x ys = (y : X) × Contains ys y × (R x y ≡ Less)

-- x goes before the run, or behind all there is, or it is not told where
abbrev pub Goes : {X : Type 0} → (X → X → Ordering) → List X → List X → X → Position → Type 0
Goes R least run x positions.Least = IsBelow R x run
Goes R least run x positions.Among = IsBelow R x run
Goes R least run x positions.Last = IsAbove R x (least ++ run)
Goes R least run x positions.Within = Unit {0}

-- the last item of a list is taken out, and goes to the end of another
pub record MovesLast {X : Type 0} (old items new rest : List X) : Type 0 where
  pub last : X
  pub was : items ≡ rest ++ last ∷ []
  pub is : new ≡ old ++ last ∷ []
