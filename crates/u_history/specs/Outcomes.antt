-- What a set of entries says: its answers, its clashes and its faults.
use Rattle.std.specs.Prelude.{◌≡◌, ℕ, List, map}
use Rattle.std.specs.Borrow.{Bor}
use Rattle.std.specs.Ordering.{ordering_then, nat_cmp}
use Rattle.std.specs.declared.cmp.Ordering.{Ordering}
use Rattle.u_sets.specs.Rising.{IsListOf}
use Rattle.u_name.specs.Name.{Activity}
use Rattle.u_name.specs.NameOrder.{name_cmp}
use Rattle.u_name.specs.Cell.{CellOf, cell_cmp}
use Rattle.u_value.specs.declared.value.Value.{Value}
use Rattle.u_rule.specs.Parts.{token}
use Rattle.u_rule.specs.EntryOrder.{write_of}
use Rattle.u_rule.specs.declared.parts.Fault.{Fault}
use Rattle.u_rule.specs.declared.parts.Written.{Written}
use Rattle.u_rule.specs.declared.entry.Entry.{Entry}
use Rattle.u_rule.specs.declared.entry.Entry.TheVariants as entries
use Rattle.u_history.specs.Orders.{value_order, written_order, fault_order}

-- what a list of references points to
abbrev pub lent : List (Bor Entry) → List Entry
lent es = map (λ (e : Bor Entry). e.now) es

-- a cell with pairs of a writer and a value
pub record CellPairs : Type 0 where
  pub cell : CellOf
  pub pairs : List Written

-- a port of an activity with values
pub record PortValues : Type 0 where
  pub activity : Activity
  pub port : ℕ
  pub values : List Value

-- H has a write of the cell by that writer with that value
abbrev pub PairIn : (Entry → Type 0) → CellOf → Written → Type 0
PairIn H c x = H (entries.Write (write_of c x.writer x.value))

-- H has a token of that value at the port
abbrev pub ValueAt : (Entry → Type 0) → Activity → ℕ → Value → Type 0
ValueAt H n p x = H (entries.Token (token n p x))

-- two different things have P
abbrev pub HasTwo : {X : Type 0} → (X → Type 0) → Type 0
HasTwo {X} P = (a : X) × (b : X) × P a × P b × (a ≡ b → ⊥)

-- a cell with two pairs in H or more, and with all its pairs, in order; pairs differ if the writers do
abbrev pub IsCellClash : (Entry → Type 0) → CellPairs → Type 0
IsCellClash H r = HasTwo (PairIn H r.cell) × IsListOf written_order (PairIn H r.cell) r.pairs

-- a port with two values in H or more, and with all its values, in order
abbrev pub IsPortClash : (Entry → Type 0) → PortValues → Type 0
IsPortClash H r = HasTwo (ValueAt H r.activity r.port) × IsListOf value_order (ValueAt H r.activity r.port) r.values

-- by cell; by activity, and then by port
abbrev pub cell_clash_order : CellPairs → CellPairs → Ordering
cell_clash_order a b = cell_cmp a.cell b.cell

abbrev pub port_clash_order : PortValues → PortValues → Ordering
port_clash_order a b = ordering_then (name_cmp a.activity b.activity) (nat_cmp a.port b.port)

-- all answers, all clashes in cells and at ports, and all faults of H, each in order
pub record IsOutcome (H : Entry → Type 0) (answers : List Value) (cells : List CellPairs) (ports : List PortValues) (faults : List Fault) : Type 0 where
  pub all_answers : IsListOf value_order (λ v. H (entries.Answer v)) answers
  pub all_cells : IsListOf cell_clash_order (IsCellClash H) cells
  pub all_ports : IsListOf port_clash_order (IsPortClash H) ports
  pub all_faults : IsListOf fault_order (λ x. H (entries.Fault x)) faults
