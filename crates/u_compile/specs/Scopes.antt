-- Where the statements of a scope lie.
use Rattle.std.specs.Prelude.{◌≡◌, ℕ, Bool, List, [], ◌∷◌, Some, slice_get}
use Rattle.u_compile.specs.declared.drawing.Scope.{Scope}
use Rattle.u_compile.specs.declared.drawing.Way.TheVariants.{Procedure, Side, Turn}
use Rattle.u_compile.specs.declared.graph.Output.{Output}
use Rattle.u_compile.specs.Scoped.{GuardedRegionParts, place, guard}

-- The place of a scope is its region, with a guard for each side around it there, the inner ones first: that the control gave the
-- truth value of the side. A procedure and the turns of a loop have no guards.
pub data IsPlaceOf (scopes : List Scope) : ℕ → GuardedRegionParts → Type 0 where
  procedure : (s : ℕ) (x : Scope) → slice_get scopes s ≡ Some x → x.way ≡ Procedure → IsPlaceOf scopes s (place x.region [])
  turn : (s : ℕ) (x : Scope) (loop : ℕ) → slice_get scopes s ≡ Some x → x.way ≡ Turn loop → IsPlaceOf scopes s (place x.region [])
  side : (s : ℕ) (x : Scope) (control : Output) (on : Bool) (p : GuardedRegionParts) → slice_get scopes s ≡ Some x → x.way ≡ Side control on → IsPlaceOf scopes x.around p → IsPlaceOf scopes s (place x.region (guard control.statement on ∷ p.guards))

-- the scope has that region
abbrev pub HasRegion : List Scope → ℕ → ℕ → Type 0
HasRegion scopes s region = (x : Scope) × (slice_get scopes s ≡ Some x) × (x.region ≡ region)
