-- Pairs of a cell and a value, as spots and the names of structures give them.
use Rattle.std.specs.Prelude.{◌<◌, List, [], ◌∷◌, map, length, Contains}
use Rattle.std.proofs.Common.{get_or}
use Rattle.std.specs.Borrow.{Bor}
use Rattle.u_base.specs.Firing.{Distinct}
use Rattle.u_name.specs.Context.{Top}
use Rattle.u_name.specs.Name.{Activity, activity}
use Rattle.u_name.specs.Cell.{CellOf, cell_of}
use Rattle.u_names.specs.Spots.{SpotParts}

-- where a number is that of no structure; `HaveStructures` rules that out
abbrev pub no_name : Activity
no_name = activity Top [] 0 0

-- the cell of a spot, whose structure is the one at its number
abbrev pub cell_at : List Activity → SpotParts → CellOf
cell_at names s = cell_of (get_or names s.structure no_name) s.index

abbrev pub pair_at : {V : Type 0} → List Activity → SpotParts × V → CellOf × V
pair_at names p = (cell_at names p.0, p.1)

abbrev pub pairs_at : {V : Type 0} → List Activity → List (SpotParts × V) → List (CellOf × V)
pairs_at {V} names ps = map (λ (p : SpotParts × V). pair_at names p) ps

-- the number of each spot's structure is that of a structure
abbrev pub HaveStructures : {V : Type 0} → List Activity → List (SpotParts × V) → Type 0
HaveStructures {V} names ps = (p : SpotParts × V) → Contains ps p → p.0.structure < length names

-- no structure has two numbers
pub record ArePairs {V : Type 0} (names : List Activity) (ps : List (SpotParts × V)) : Type 0 where
  pub structures : Distinct names
  pub placed : HaveStructures names ps

-- a cell with what a reference to its value points to
abbrev pub deref_at_cell : {V : Type 0} → CellOf × Bor V → CellOf × V
deref_at_cell p = (p.0, p.1.now)

-- the pairs of a set that stands alone
abbrev pub pairs_of_one : {V : Type 0} → List (List (CellOf × V)) → List (CellOf × V)
pairs_of_one [] = []
pairs_of_one (pairs ∷ others) = pairs
