-- Deferred reads: a `fetch` has all that it needs but a write of the cell.
use Rattle.std.specs.Prelude.{◌≡◌, true, List, [], ◌∷◌, Some, Ok}
use Rattle.u_name.specs.Cell.{CellOf}
use Rattle.u_value.specs.declared.value.Value.{Value}
use Rattle.u_program.specs.Parts.{BlockParts, StatementParts}
use Rattle.u_rule.specs.Fits.{statement_of}
use Rattle.u_rule.specs.Structures.{cell_named, reads_cell}
use Rattle.u_rule.specs.declared.entry.Entry.{Entry}
use Rattle.u_rule.specs.declared.parts.Written.{Written}
use Rattle.u_history.specs.Outcomes.{ValueAt, PairIn}
use Rattle.u_trace.specs.declared.reads.DeferredRead.{DeferredRead}

-- H has no write of the cell
abbrev pub IsUnwritten : (Entry → Type 0) → CellOf → Type 0
IsUnwritten H c = (w : Written) → PairIn H c w → ⊥

-- The reader's statement reads a cell on two values that stand at the first two of its ports, these
-- name the cell, and H has no write of it. A port may have several values: each pair counts.
pub record IsDeferred (p : List BlockParts) (H : Entry → Type 0) (r : DeferredRead) : Type 0 where
  pub statement : StatementParts
  pub structure : Value
  pub index : Value
  pub executes : statement_of p r.reader.block r.reader.statement ≡ Some statement
  pub reads : reads_cell statement.kind (structure ∷ index ∷ []) ≡ true
  pub names : cell_named (structure ∷ index ∷ []) ≡ Ok r.cell
  pub first : ValueAt H r.reader 1 structure
  pub second : ValueAt H r.reader 2 index
  pub unwritten : IsUnwritten H r.cell
