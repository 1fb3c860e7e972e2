-- The places of keys.
use Rattle.std.specs.Prelude.{◌≡◌, ℕ, Bool, Option, Some}
use Rattle.std.specs.HashMap.{get}
use Rattle.u_rule.specs.declared.entry.Entry.{Entry}
use Rattle.u_rule.specs.contracts.entry.EntryPartialEq.TheImpl as entry_partial
use Rattle.u_trace.specs.declared.places.Places.{Places}

-- the place of the key
unfoldable pub place_of : {K : Type 0} → (K → K → Bool) → Places K → K → Option ℕ
place_of eq t q = get eq t.map q

-- the key has that place, and each other key what it had
pub record IsPut {K : Type 0} (eq : K → K → Bool) (old : Places K) (key : K) (place : ℕ) (new : Places K) : Type 0 where
  pub here : place_of eq new key ≡ Some place
  pub others : (q : K) → (key ≡ q → ⊥) → place_of eq new q ≡ place_of eq old q

-- the derived test of two entries
abbrev pub entry_eq : Entry → Entry → Bool
entry_eq = (entry_partial.ghosts).eq
