-- What lies within the limits of some version lies within the widest.
use Rattle.std.specs.Prelude.{List, [], ◌∷◌, refl}
use Rattle.std.specs.List.{AllByRecursion}
use Rattle.std.proofs.Common.{arith}
use Rattle.u_program.specs.declared.program.Version.{Version}
use Rattle.u_program.specs.declared.program.Version.TheVariants as versions
use Rattle.u_program.specs.declared.program.Kind.{Kind}
use Rattle.u_program.specs.declared.program.Kind.TheVariants.{Param, Apply, Ask}
use Rattle.u_program.specs.declared.program.Destination.{Destination}
use Rattle.u_program.specs.Parts.{StatementParts, BlockParts}
use Rattle.u_program.specs.Limits.{HasKind, HasPorts, IsStatement, IsBlockOf, IsProgram, limits_of, the_limits}

has_kind_of_all : (version : Version) (k : Kind) → HasKind version k → HasKind versions.Two k
has_kind_of_all version (Param k) h = refl
has_kind_of_all version (Apply b n) h = tt
has_kind_of_all version (Ask s n) h = absurd h
has_kind_of_all version k h = tt

has_ports_of_all : (version : Version) (to : List Destination) → HasPorts version to → HasPorts versions.Two to
has_ports_of_all version [] h = tt
has_ports_of_all versions.One (d ∷ ds) h = (omega (arith, h.0), has_ports_of_all versions.One ds h.1)
has_ports_of_all versions.Two (d ∷ ds) h = h

statement_within_all : (version : Version) (s : StatementParts) → IsStatement (limits_of version) s → IsStatement the_limits s
statement_within_all version s v = record {
  region = v.region;
  kind = v.kind;
  has_kind = has_kind_of_all version s.kind v.has_kind;
  to = v.to;
  ports = has_ports_of_all version s.to v.ports;
  listed = v.listed;
  few = v.few;
  otherwise = v.otherwise;
  ports_otherwise = has_ports_of_all version s.otherwise v.ports_otherwise;
  listed_otherwise = v.listed_otherwise;
  few_otherwise = v.few_otherwise;
}

statements_within_all : (version : Version) (ss : List StatementParts) → AllByRecursion (IsStatement (limits_of version)) ss → AllByRecursion (IsStatement the_limits) ss
statements_within_all version [] v = tt
statements_within_all version (s ∷ ss) v = (statement_within_all version s v.0, statements_within_all version ss v.1)

blocks_within_all : (version : Version) (bs : List BlockParts) → AllByRecursion (IsBlockOf (limits_of version)) bs → AllByRecursion (IsBlockOf the_limits) bs
blocks_within_all version [] v = tt
blocks_within_all version (b ∷ bs) v =
    (record { name = v.0.name; loops = v.0.loops; few_loops = v.0.few_loops; each = statements_within_all version b.statements v.0.each; few = v.0.few; some = v.0.some }, blocks_within_all version bs v.1)

-- what lies within the limits of a version
pub within_all : (version : Version) (p : List BlockParts) → IsProgram (limits_of version) p → IsProgram the_limits p
within_all version p v = record { each = blocks_within_all version p v.each; few = v.few; some = v.some }
