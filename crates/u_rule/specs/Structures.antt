-- Structures of cells: which cell two values name, and what statements do with structures.
pub use Rattle.u_check.specs.Plain.{is_plain}
use Rattle.std.specs.Prelude.{ℕ, ℤ, pos, unsigned_abs, int_le, int_lt, Bool, false, ◌&&◌, if◌then◌else◌, is_ok, is_some, is_none}
use Rattle.std.specs.Prelude.{List, [], ◌∷◌, Option, Some, None, Result, Ok, Err}
use Rattle.std.specs.List.{list_all}
use Rattle.std.specs.Ordering.{eq_by_cmp}
use Rattle.u_name.specs.Name.{Activity}
use Rattle.u_name.specs.NameOrder.{name_cmp}
use Rattle.u_name.specs.Cell.{CellOf, cell_of}
use Rattle.u_value.specs.Pointer.{pointer}
use Rattle.u_value.specs.declared.value.Value.{Value}
use Rattle.u_value.specs.declared.value.Value.TheVariants as values
use Rattle.u_value.specs.declared.fault_kind.FaultKind.{FaultKind}
use Rattle.u_value.specs.declared.fault_kind.FaultKind.TheVariants as faults
use Rattle.u_program.specs.declared.program.Kind.{Kind}
use Rattle.u_program.specs.declared.program.Kind.TheVariants.{Fetch}
use Rattle.u_check.specs.Kinds.{is_ask}
use Rattle.u_rule.specs.Parts.{ValueList}
use Rattle.u_rule.specs.declared.entry.Entry.{Entry}
use Rattle.u_rule.specs.declared.entry.Entry.TheVariants as entries
use Rattle.u_rule.specs.declared.parts.Written.{Written}

-- the index is that of a cell: at least 0, and below the length
abbrev pub is_index : ℤ → ℕ → Bool
is_index z length = int_le (pos 0) z && int_lt z (pos length)

-- the cell that the first two values name, a structure and an index in it; else why they name none
abbrev pub cell_named : ValueList → Result CellOf FaultKind
cell_named (values.Ref p ∷ values.Int z ∷ vs) = if is_index z p.length then Ok (cell_of p.name (unsigned_abs z)) else Err faults.Bounds
cell_named vs = Err faults.Kind

-- whether a statement of that kind reads a cell on these values: a `fetch`, where they name one
abbrev pub reads_cell : Kind → ValueList → Bool
reads_cell Fetch vs = is_ok (cell_named vs)
reads_cell k vs = false

-- a firing has a write exactly where its statement reads a cell
abbrev pub has_its_write : Kind → ValueList → Option Written → Bool
has_its_write k vs write = if reads_cell k vs then is_some write else is_none write

-- whether the write is one that the activity itself makes of a plain value, about plain values
abbrev pub answers : Activity → ValueList → Option Written → Bool
answers a vs None = false
answers a vs (Some w) = eq_by_cmp name_cmp w.writer a && (list_all is_plain vs && is_plain w.value)

-- whether a firing of a statement of that kind is a reply: of an `ask`, where it has a write
abbrev pub is_answer : Kind → Option Written → Bool
is_answer k write = is_ask k && is_some write

-- that the activity wrote the value into the cell
abbrev pub wrote : CellOf → Activity → Value → Entry
wrote cell writer value = entries.Write (record { cell = cell; writer = writer; value = value })

-- the write that a firing read, where it has one: it lies in the cell that the first two values name
abbrev pub read_from : Result CellOf FaultKind → Written → List Entry
read_from (Ok cell) w = wrote cell w.writer w.value ∷ []
read_from (Err _) w = []

abbrev pub write_read : ValueList → Option Written → List Entry
write_read vs None = []
write_read vs (Some w) = read_from (cell_named vs) w

-- a new structure has the name of the activity that makes it, and a length of 0 to 1000000
abbrev pub allocated : Activity → ValueList → Result Value FaultKind
allocated a (values.Int z ∷ vs) = if int_le (pos 0) z && int_le z (pos 1000000) then Ok (values.Ref (pointer a (unsigned_abs z))) else Err faults.Length
allocated a vs = Err faults.Kind

-- what `ask` gives on plain values: a structure of one cell, which a reply writes
abbrev pub asked : Activity → ValueList → Result Value FaultKind
asked a vs = if list_all is_plain vs then Ok (values.Ref (pointer a 1)) else Err faults.Kind

-- what a reply gives: the write into the one cell of what the activity asked for
abbrev pub replied : Activity → Option Written → List Entry
replied a None = []
replied a (Some w) = wrote (cell_of a 0) w.writer w.value ∷ []

-- what is read from a cell: the value of the write that the firing has
abbrev pub value_read : Option Written → Result Value FaultKind
value_read (Some w) = Ok w.value
value_read None = Err faults.Bounds

abbrev pub fetched : Result CellOf FaultKind → Option Written → Result Value FaultKind
fetched (Ok cell) write = value_read write
fetched (Err kind) write = Err kind

-- what `store` gives: the write of the third value into the cell, or the fault why there is no cell
abbrev pub stored_in : Activity → Result CellOf FaultKind → ValueList → List Entry
stored_in a (Ok cell) (structure ∷ index ∷ v ∷ vs) = wrote cell a v ∷ []
stored_in a (Ok cell) vs = entries.Fault (record { activity = a; kind = faults.Kind }) ∷ []
stored_in a (Err kind) vs = entries.Fault (record { activity = a; kind = kind }) ∷ []

abbrev pub stored : Activity → ValueList → List Entry
stored a vs = stored_in a (cell_named vs) vs
