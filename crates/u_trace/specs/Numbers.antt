-- Numbers of activities, and places of tokens that are found by them.
use Rattle.std.specs.Prelude.{◌≡◌, ◌<◌, ℕ, suc, if◌then◌else◌, List, [], ◌∷◌, Option, Some, slice_get}
use Rattle.std.specs.Ordering.{eq_by_cmp}
use Rattle.u_sets.specs.Columns.{IsNumberOf}
use Rattle.u_name.specs.Name.{Activity}
use Rattle.u_name.specs.NameOrder.{name_cmp}
use Rattle.u_rule.specs.Parts.{TokenParts}
use Rattle.u_rule.specs.declared.firing.Firing.{Firing}
use Rattle.u_trace.specs.TokenKeys.{token_key}
use Rattle.u_trace.specs.TokenPlaces.{place_under}
use Rattle.u_trace.specs.declared.token_key.TokenKey.{TokenKey}
use Rattle.u_trace.specs.declared.token_places.TokenPlaces.{TokenPlaces}

-- the number of the activity, its place in the list, or the list's length where it is not there
abbrev pub number_in : List Activity → Activity → ℕ
number_in [] a = 0
number_in (b ∷ bs) a = if eq_by_cmp name_cmp b a then 0 else suc (number_in bs a)

-- no activity has two numbers
abbrev pub HaveOneNumber : List Activity → Type 0
HaveOneNumber names = (i j : ℕ) (a : Activity) → IsNumberOf names a i → IsNumberOf names a j → i ≡ j

-- each token that has a place is of an activity whose number is below n
abbrev pub LieUnder : ℕ → TokenPlaces → Type 0
LieUnder n tokens = (k : TokenKey) (p : ℕ) → place_under tokens k ≡ Some p → k.activity < n

-- the place of the token
abbrev pub token_place : List Activity → TokenPlaces → TokenParts → Option ℕ
token_place names tokens t = place_under tokens (token_key (number_in names t.activity) t.port t.value)

-- owners has the number of each firing's activity, at the firing's place
abbrev pub AreOwners : List Activity → List Firing → List ℕ → Type 0
AreOwners names fs owners = (k : ℕ) (f : Firing) → slice_get fs k ≡ Some f → (n : ℕ) × (slice_get owners k ≡ Some n) × IsNumberOf names f.activity n
