-- The block of a graph.
use Rattle.std.specs.Prelude.{ℕ, ◌≤◌, true, false, List, [], ◌∷◌, length}
use Rattle.std.specs.List.{AllByRecursion}
use Rattle.u_program.specs.Parts.{StatementParts, BlockParts, statement, block}
use Rattle.u_program.specs.Limits.{IsBlockOf, limits_of}
use Rattle.u_program.specs.declared.program.Version.TheVariants.{Two}
use Rattle.u_determinate.specs.Determinate.{IsDeterminate}
use Rattle.u_compile.specs.Drafts.{DraftParts}
use Rattle.u_compile.specs.declared.graph.Link.{Link}
use Rattle.u_compile.specs.Graphs.{GraphParts, output, destinations}
use Rattle.u_compile.specs.Kept.{KeepEach, NamesDiffer}

-- the statement of a draft: it lists the destinations of the links that it has
abbrev pub statement_of : List Link → DraftParts → StatementParts
statement_of ls d = statement d.region d.kind (destinations (output d.shares false) ls) (destinations (output d.shares true) ls)

abbrev pub statements_of : List Link → List DraftParts → List StatementParts
statements_of ls [] = []
statements_of ls (d ∷ ds) = statement_of ls d ∷ statements_of ls ds

-- the block with that name
abbrev pub block_of : List ℕ → GraphParts → BlockParts
block_of name g = block name g.loops (statements_of g.links g.statements)

-- they lie within the limits of a program of version 2, but that there may be none; each is determinate and keeps the
-- rules of the checker, but that constants name blocks; and their names differ
pub record AreBlocks (bs : List BlockParts) : Type 0 where
  pub each : AllByRecursion (IsBlockOf (limits_of Two)) bs
  pub few : length bs ≤ 64
  pub determinate : IsDeterminate bs
  pub kept : KeepEach bs
  pub differ : NamesDiffer bs
