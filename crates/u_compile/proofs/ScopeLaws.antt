-- The place of a scope, found outwards from it.
use Rattle.std.proofs.Common.{◌≡◌, ℕ, sym, ap, ◌∙◌, subst, List, [], ◌∷◌, ◌++◌, Some, append_assoc}
use Rattle.std.specs.Prelude.{slice_get, Bool}
use Rattle.std.proofs.lemmas.List.{append-nil}
use Rattle.u_compile.specs.declared.drawing.Scope.{Scope}
use Rattle.u_compile.specs.declared.drawing.Way.TheVariants.{Procedure, Side, Turn}
use Rattle.u_compile.specs.declared.graph.Output.{Output}
use Rattle.u_compile.specs.declared.place.Guard.{Guard}
use Rattle.u_compile.specs.Scoped.{GuardedRegionParts, place, guard}
use Rattle.u_compile.specs.Scopes.{IsPlaceOf, HasRegion}

some_one : {A : Type 0} (x y : A) → Some x ≡ Some y → x ≡ y
some_one x y e = cc

place_region : (scopes : List Scope) (s : ℕ) (p : GuardedRegionParts) (r : ℕ) → IsPlaceOf scopes s p → HasRegion scopes s r → p.region ≡ r
place_region scopes s p r (IsPlaceOf.procedure t x is way) h = ap (λ (y : Scope). y.region) (some_one x h.0 (sym is ∙ h.1)) ∙ h.2
place_region scopes s p r (IsPlaceOf.turn t x loop is way) h = ap (λ (y : Scope). y.region) (some_one x h.0 (sym is ∙ h.1)) ∙ h.2
place_region scopes s p r (IsPlaceOf.side t x control on q is way from) h = ap (λ (y : Scope). y.region) (some_one x h.0 (sym is ∙ h.1)) ∙ h.2

-- so far these are the guards, and those further out come behind them
pub IsPlaceSo : List Scope → ℕ → ℕ → List Guard → ℕ → Type 0
IsPlaceSo scopes scope region gs at = (p : GuardedRegionParts) → IsPlaceOf scopes at p → IsPlaceOf scopes scope (place region (gs ++ p.guards))

pub place_begins : (scopes : List Scope) (scope region : ℕ) → HasRegion scopes scope region → IsPlaceSo scopes scope region [] scope
unfolding IsPlaceSo
place_begins scopes scope region h p is = subst (λ (r : ℕ). IsPlaceOf scopes scope (place r p.guards)) (place_region scopes scope p region is h) is

pub place_more : (scopes : List Scope) (scope region at : ℕ) (gs hs : List Guard) (x : Scope) (control : Output) (on : Bool) → IsPlaceSo scopes scope region gs at → slice_get scopes at ≡ Some x → x.way ≡ Side control on → hs ≡ gs ++ (guard control.statement on ∷ []) → IsPlaceSo scopes scope region hs x.around
unfolding IsPlaceSo
place_more scopes scope region at gs hs x control on so is way more p from =
    let g = guard control.statement on in
    let outer = so (place x.region (g ∷ p.guards)) (IsPlaceOf.side at x control on p is way from) in
    let same : gs ++ (g ∷ p.guards) ≡ hs ++ p.guards = sym (ap (λ (ks : List Guard). ks ++ p.guards) more ∙ append_assoc gs (g ∷ []) p.guards) in
    subst (λ (ks : List Guard). IsPlaceOf scopes scope (place region ks)) same outer

place_done : (scopes : List Scope) (scope region at : ℕ) (gs : List Guard) (x : Scope) → IsPlaceSo scopes scope region gs at → IsPlaceOf scopes at (place x.region []) → IsPlaceOf scopes scope (place region gs)
unfolding IsPlaceSo
place_done scopes scope region at gs x so is = subst (λ (ks : List Guard). IsPlaceOf scopes scope (place region ks)) (append-nil gs) (so (place x.region []) is)

pub place_in_procedure : (scopes : List Scope) (scope region at : ℕ) (gs : List Guard) (x : Scope) → IsPlaceSo scopes scope region gs at → slice_get scopes at ≡ Some x → x.way ≡ Procedure → IsPlaceOf scopes scope (place region gs)
place_in_procedure scopes scope region at gs x so is way = place_done scopes scope region at gs x so (IsPlaceOf.procedure at x is way)

pub place_in_turn : (scopes : List Scope) (scope region at : ℕ) (gs : List Guard) (x : Scope) (loop : ℕ) → IsPlaceSo scopes scope region gs at → slice_get scopes at ≡ Some x → x.way ≡ Turn loop → IsPlaceOf scopes scope (place region gs)
place_in_turn scopes scope region at gs x loop so is way = place_done scopes scope region at gs x so (IsPlaceOf.turn at x loop is way)
