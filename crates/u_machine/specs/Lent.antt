-- How the parked firings of a machine are lent.
use Rattle.std.specs.Prelude.{◌≡◌, Option, Some, None, [], ◌∷◌}
use Rattle.std.specs.Borrow.{Bor}
use Rattle.u_rule.specs.declared.firing.Firing.{Firing}
use Rattle.u_rule.specs.EntryOrder.{FiringList}

-- the firing in flight, if there is one
abbrev pub flying_first : Option (Bor Firing) → FiringList
flying_first (Some firing) = firing.now ∷ []
flying_first None = []

-- a firing in flight is the only one
abbrev pub FliesAlone : Option (Bor Firing) → FiringList → Type 0
FliesAlone (Some firing) waiting = waiting ≡ []
FliesAlone None waiting = Unit {0}
