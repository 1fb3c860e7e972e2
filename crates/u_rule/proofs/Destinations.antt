-- The destinations of a statement of a program are in their ranges.
use Rattle.std.specs.Prelude.{◌≡◌, ℕ, List, [], ◌∷◌, false}
use Rattle.std.specs.List.{AllByRecursion}
use Rattle.u_value.specs.declared.value.Value.TheVariants as values
use Rattle.u_program.specs.Limits.{Ascending, IsDestination, IsStatement, the_limits, rank}
use Rattle.u_program.specs.Parts.{StatementParts}
use Rattle.u_program.specs.declared.program.Kind.{Kind}
use Rattle.u_program.specs.declared.program.Kind.TheVariants.{Switch}
use Rattle.u_program.specs.declared.program.Destination.{Destination}
use Rattle.u_rule.specs.Parts.{ValueList}
use Rattle.u_rule.specs.Rule.{list_of}

pub all_in_range : (below : ℕ) (ds : List Destination) → Ascending below ds → AllByRecursion IsDestination ds
all_in_range below [] a = tt
all_in_range below (d ∷ ds) a = (a.0, all_in_range (rank d) ds a.2)

-- the list that a statement sends to is ascending
pub list_ascends : (k : Kind) (s : StatementParts) (vs : ValueList) → IsStatement the_limits s → Ascending 0 (list_of k s vs)
list_ascends Switch s (v ∷ values.Bool false ∷ vs) i = i.otherwise
list_ascends k s vs i = i.to

pub list_in_range : (to : List Destination) (k : Kind) (s : StatementParts) (vs : ValueList) → to ≡ list_of k s vs → IsStatement the_limits s → AllByRecursion IsDestination to
list_in_range to k s vs e i = rw e (all_in_range 0 (list_of k s vs) (list_ascends k s vs i))
