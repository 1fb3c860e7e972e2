-- What the members of a list are, beside those of another list.
use Rattle.std.specs.Prelude.{◌≡◌, List, [], ◌∷◌, ◌++◌, ◌⊎◌, ◌↔◌, Contains}

-- new has the members of old, and y
abbrev pub IsWith : {X : Type 0} → List X → X → List X → Type 0
IsWith {X} old y new = (x : X) → Contains new x ↔ (Contains old x ⊎ (y ≡ x))

-- x is y, or in the list
abbrev pub HasOr : {X : Type 0} → List X → X → X → Type 0
HasOr xs y x = Contains xs x ⊎ (y ≡ x)

-- xs has exactly those with P
abbrev pub AreThose : {X : Type 0} → (X → Type 0) → List X → Type 0
AreThose {X} P xs = (x : X) → Contains xs x ↔ P x

-- new has the members of old, and those with P
abbrev pub Gains : {X : Type 0} → List X → (X → Type 0) → List X → Type 0
Gains {X} old P new = (x : X) → Contains new x ↔ (Contains old x ⊎ P x)

-- new has the members of old without y
pub record IsWithout {X : Type 0} (old : List X) (y : X) (new : List X) : Type 0 where
  pub less : (x : X) → Contains new x → Contains old x
  pub gone : Contains new y → ⊥
  pub rest : (x : X) → Contains old x → (y ≡ x) ⊎ Contains new x

-- all has the members of both
abbrev pub IsUnion : {X : Type 0} → List X → List X → List X → Type 0
IsUnion {X} left right all = (x : X) → Contains all x ↔ (Contains left x ⊎ Contains right x)

-- some member of ys has P with f
abbrev pub SomeOf : {Y F : Type 0} → List Y → (Y → F → Type 0) → F → Type 0
SomeOf {Y} ys P f = (y : Y) × Contains ys y × P y f

-- y stands last in new, behind old, or was there
abbrev pub GoesLast : {X : Type 0} → List X → X → List X → Type 0
GoesLast old y new = (Contains old y × (new ≡ old)) ⊎ ((Contains old y → ⊥) × (new ≡ old ++ y ∷ []))

-- the last item of a list is taken out, and goes into the set
pub record TakesLast {X : Type 0} (old items new rest : List X) : Type 0 where
  pub last : X
  pub was : items ≡ rest ++ last ∷ []
  pub with : IsWith old last new
