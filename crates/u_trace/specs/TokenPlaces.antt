-- The places of tokens whose activities have numbers. The first value at a port that got a place stands
-- in the port's column, at its activity's number; others stand under their keys.
use Rattle.std.specs.Prelude.{◌≡◌, ℕ, if◌then◌else◌, List, length, Option, Some, None, slice_get}
use Rattle.u_value.specs.declared.value.Value.{Value}
use Rattle.u_trace.specs.Firsts.{first_in, value_eq}
use Rattle.u_trace.specs.Places.{place_of}
use Rattle.u_trace.specs.TokenKeys.{key_eq}
use Rattle.u_trace.specs.declared.firsts.Firsts.{Firsts}
use Rattle.u_trace.specs.declared.firsts.ValueAt.{ValueAt}
use Rattle.u_trace.specs.declared.places.Places.{Places}
use Rattle.u_trace.specs.declared.token_key.TokenKey.{TokenKey}
use Rattle.u_trace.specs.declared.token_places.TokenPlaces.{TokenPlaces}

abbrev pub first_of : Option Firsts → ℕ → Option ValueAt
first_of None n = None
first_of (Some firsts) n = first_in firsts n

-- the first value at a port of the activity that has the number
abbrev pub first_at : List Firsts → ℕ → ℕ → Option ValueAt
first_at columns port n = first_of (slice_get columns port) n

-- the place of the first value, if that is v, and else the other place
abbrev pub place_or : Option ValueAt → Value → Option ℕ → Option ℕ
place_or None v other = other
place_or (Some first) v other = if value_eq first.value v then Some first.place else other

-- the place of the token that has the key
abbrev pub place_among : List Firsts → Places TokenKey → TokenKey → Option ℕ
place_among columns others k = place_or (first_at columns k.port k.activity) k.value (place_of key_eq others k)

abbrev pub place_under : TokenPlaces → TokenKey → Option ℕ
place_under t k = place_among t.columns t.others k

-- there is a column for each port, and one for port 0, which no token has
abbrev pub HaveColumns : TokenPlaces → Type 0
HaveColumns t = length t.columns ≡ 6

-- the key has that place, and each other key what it had
pub record IsPlaced (old : TokenKey → Option ℕ) (key : TokenKey) (place : ℕ) (new : TokenKey → Option ℕ) : Type 0 where
  pub here : new key ≡ Some place
  pub others : (k : TokenKey) → (key ≡ k → ⊥) → new k ≡ old k
