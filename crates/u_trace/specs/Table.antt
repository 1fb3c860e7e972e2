-- The places of entries in a table of givers.
use Rattle.std.specs.Prelude.{◌≡◌, ℕ, List, [], ◌∷◌, ◌++◌, length, Option}
use Rattle.u_sets.specs.Columns.{IsNumberOf}
use Rattle.u_names.specs.Groups.{Grows}
use Rattle.u_name.specs.Name.{Activity}
use Rattle.u_rule.specs.declared.entry.Entry.{Entry}
use Rattle.u_rule.specs.declared.entry.Entry.TheVariants as entries
use Rattle.u_rule.specs.declared.firing.Firing.{Firing}
use Rattle.u_trace.specs.Places.{place_of, entry_eq}
use Rattle.u_trace.specs.Numbers.{token_place, AreOwners}
use Rattle.u_trace.specs.declared.places.Places.{Places}
use Rattle.u_trace.specs.declared.token_places.TokenPlaces.{TokenPlaces}
use Rattle.u_trace.specs.declared.table.Givers.{Givers}

-- the place of the entry: of a token by its activity's number
abbrev pub place_at : List Activity → TokenPlaces → Places Entry → Entry → Option ℕ
place_at names tokens others (entries.Token t) = token_place names tokens t
place_at names tokens others e = place_of entry_eq others e

abbrev pub place_in : Givers → Entry → Option ℕ
place_in g e = place_at g.names g.tokens g.others e

-- the table has the number of each firing's activity
pub record Owns (g : Givers) (fs : List Firing) : Type 0 where
  pub count : length g.owners.items ≡ length fs
  pub owners : AreOwners g.names fs g.owners.items

-- more activities may have numbers, and those of the firings are what they were
pub record StillOwns (old new : Givers) : Type 0 where
  pub names : Grows old.names new.names
  pub owners : new.owners.items ≡ old.owners.items

-- and the number of the firing's activity has come behind these
pub record OwnsMore (old : Givers) (f : Firing) (new : Givers) : Type 0 where
  pub number : ℕ
  pub is : IsNumberOf new.names f.activity number
  pub names : Grows old.names new.names
  pub owners : new.owners.items ≡ old.owners.items ++ number ∷ []
