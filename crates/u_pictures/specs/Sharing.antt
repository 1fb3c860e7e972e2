-- Which statements share a list.
use Rattle.std.specs.Prelude.{ℕ, Bool, true, false, not, ◌&&◌, ◌==◌, nat_le, List, [], ◌∷◌, length}
use Rattle.std.specs.List.{count_by}
use Rattle.u_program.specs.declared.program.Destination.{Destination}
use Rattle.u_program.specs.Parts.{StatementParts}
use Rattle.u_program.specs.Limits.{has_otherwise}

-- the same destinations in the same order
abbrev pub same_list : List Destination → List Destination → Bool
same_list [] [] = true
same_list [] (e ∷ es) = false
same_list (d ∷ ds) [] = false
same_list (d ∷ ds) (e ∷ es) = (d.statement == e.statement && d.port == e.port) && same_list ds es

-- the statement has this list, and no second one
abbrev pub has_list : List Destination → StatementParts → Bool
has_list to s = not (has_otherwise s.kind) && same_list to s.to

-- how many of them have it
abbrev pub times : List Destination → List StatementParts → ℕ
times to ss = count_by (has_list to) ss

-- of these statements this one shares its list: it has two or more destinations, and another one has the
-- same list; a `switch` has two lists, and shares none
abbrev pub shares : List StatementParts → StatementParts → Bool
shares ss s = (not (has_otherwise s.kind) && nat_le 2 (length s.to)) && nat_le 2 (times s.to ss)
