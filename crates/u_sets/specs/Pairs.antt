-- Pairs of a key and a value, as the values stand under their keys.
use Rattle.std.specs.Prelude.{◌≡◌, ℕ, List, [], ◌∷◌, ◌++◌, length, nat_lt, if◌then◌else◌, Contains}
use Rattle.u_base.specs.Firing.{Distinct}
use Rattle.u_sets.specs.declared.few.Few.{Few}
use Rattle.u_sets.specs.declared.few.Few.TheVariants.{Empty, One, Many}

-- the values under a key
abbrev pub items_of : {V : Type 0} → Few V → List V
items_of Empty = []
items_of (One v) = v ∷ []
items_of (Many s) = s.value.keys

-- the pairs of the key and each value
abbrev pub pairs_from : {K V : Type 0} → K → List V → List (K × V)
pairs_from k [] = []
pairs_from k (v ∷ vs) = (k, v) ∷ pairs_from k vs

-- the pairs of all keys
abbrev pub pairs_of : {K V : Type 0} → List (K × Few V) → List (K × V)
pairs_of [] = []
pairs_of (e ∷ es) = pairs_from e.0 (items_of e.1) ++ pairs_of es

-- P of another thing than x
abbrev pub HasAnother : {X : Type 0} → (X → Type 0) → X → Type 0
HasAnother {X} P x = (y : X) × P y × (y ≡ x → ⊥)

-- a single value stands under the key
abbrev pub IsOne : {V : Type 0} → Few V → Type 0
IsOne Empty = ⊥
IsOne (One v) = Unit {0}
IsOne (Many s) = ⊥

-- the pairs of an entry's key, if it has at least n values
abbrev pub group_pairs : {K V : Type 0} → ℕ → K × Few V → List (K × V)
group_pairs n e = if nat_lt (length (items_of e.1)) n then [] else pairs_from e.0 (items_of e.1)

-- the pairs of all keys that have at least n values
abbrev pub pairs_of_many : {K V : Type 0} → ℕ → List (K × Few V) → List (K × V)
pairs_of_many n [] = []
pairs_of_many n (e ∷ es) = group_pairs n e ++ pairs_of_many n es

-- no key has a value twice
abbrev pub GroupsAreDistinct : {K V : Type 0} → List (K × Few V) → Type 0
GroupsAreDistinct {K} {V} es = (e : K × Few V) → Contains es e → Distinct (items_of e.1)
