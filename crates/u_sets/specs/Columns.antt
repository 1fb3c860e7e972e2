-- Values by number: those that stand in a list of places, the first of which has number 0.
use Rattle.std.specs.Prelude.{◌≡◌, ◌⊎◌, ◌<◌, ◌≤◌, ℕ, suc, List, [], ◌∷◌, ◌++◌, Option, Some, None, Contains, length, slice_get}
use Rattle.std.specs.Borrow.{Bor}
use Rattle.u_sets.specs.declared.few.Few.{Few}
use Rattle.u_sets.specs.Pairs.{pairs_of}

-- the places with their numbers, where the first has number n
abbrev pub numbered_from : {V : Type 0} → ℕ → List (Few V) → List (ℕ × Few V)
numbered_from n [] = []
numbered_from n (f ∷ fs) = (n, f) ∷ numbered_from (suc n) fs

-- each number with each value at its place
abbrev pub numbered_pairs : {V : Type 0} → List (Few V) → List (ℕ × V)
numbered_pairs fs = pairs_of (numbered_from 0 fs)

-- a number with what a reference to its value points to
abbrev pub deref_value : {V : Type 0} → ℕ × Bor V → ℕ × V
deref_value p = (p.0, p.1.now)

-- each number of such pairs is below n
abbrev pub AreBelow : {V : Type 0} → ℕ → List (ℕ × V) → Type 0
AreBelow {V} n ps = (p : ℕ × V) → Contains ps p → p.0 < n

-- the value under a key, if there is one
abbrev pub pair_under : {K V : Type 0} → Option K → V → List (K × V)
pair_under None v = []
pair_under (Some k) v = (k, v) ∷ []

-- the pairs with keys in place of their numbers, where the number of a key is its place
abbrev pub named : {K V : Type 0} → List K → List (ℕ × V) → List (K × V)
named ks [] = []
named ks (p ∷ ps) = pair_under (slice_get ks p.0) p.1 ++ named ks ps

-- n is the number of the key
abbrev pub IsNumberOf : {K : Type 0} → List K → K → ℕ → Type 0
IsNumberOf ks k n = slice_get ks n ≡ Some k

-- or that of none, where the key has no number
abbrev pub MayNumber : {K : Type 0} → List K → K → ℕ → Type 0
MayNumber ks k n = IsNumberOf ks k n ⊎ ((Contains ks k → ⊥) × (length ks ≤ n))
