-- Marked places.
use Rattle.std.specs.Prelude.{◌≡◌, ℕ, ◌<◌, ◌⊎◌, ◌↔◌, Bool, true, List, length, Option, Some, slice_get}
use Rattle.u_base.specs.Firing.{System}
use Rattle.u_sets.specs.Members.{SomeOf}

-- the place is marked
abbrev pub IsMarked : List Bool → ℕ → Type 0
IsMarked marks k = slice_get marks k ≡ Some true

-- x is not the start, and its giver stands at place k
abbrev pub IsWanted : {E : Type 0} → E → (E → Option ℕ) → E → ℕ → Type 0
IsWanted start at x k = (x ≡ start → ⊥) × (at x ≡ Some k)

-- the places with P are marked besides
pub record Marks (old : List Bool) (P : ℕ → Type 0) (new : List Bool) : Type 0 where
  pub count : length new ≡ length old
  pub exact : (k : ℕ) → IsMarked new k ↔ (IsMarked old k ⊎ P k)

-- all places lie below n
abbrev pub LieBelow : {E : Type 0} → (E → Option ℕ) → ℕ → Type 0
LieBelow {E} at n = (x : E) (k : ℕ) → at x ≡ Some k → k < n

-- where place k is marked, the places of the givers of what its firing needs are marked besides
pub record MarksBehind {E F : Type 0} (s : System E F) (start : E) (log : List F) (at : E → Option ℕ) (k : ℕ) (old new : List Bool) : Type 0 where
  pub count : length new ≡ length old
  pub marked : (f : F) → slice_get log k ≡ Some f → IsMarked old k → Marks old (SomeOf (s.needs f) (IsWanted start at)) new
  pub other : (IsMarked old k → ⊥) → new ≡ old
