-- Clashes as the code has them: what they say, and how they are gathered.
use Rattle.std.specs.Prelude.{◌≡◌, ℕ}
use Rattle.std.specs.declared.cmp.Ordering.{Ordering}
use Rattle.u_name.specs.Name.{Activity}
use Rattle.u_name.specs.Cell.{CellOf}
use Rattle.u_sets.specs.Rising.{IsListOf}
use Rattle.u_rule.specs.declared.entry.Entry.{Entry}
use Rattle.u_history.specs.declared.clash.CellClash.{CellClash}
use Rattle.u_history.specs.declared.clash.PortClash.{PortClash}
use Rattle.u_history.specs.declared.clash.Port.{Port}
use Rattle.u_history.specs.contracts.clash.PortOrd.TheImpl as port_ord
use Rattle.u_history.specs.Orders.{value_order, written_order}
use Rattle.u_history.specs.Outcomes.{CellPairs, PortValues, PairIn, ValueAt}

abbrev pub port_of : Activity → ℕ → Port
port_of activity number = record { activity = activity; number = number }

-- by activity, and then by number
abbrev pub port_order : Port → Port → Ordering
port_order = (port_ord.ghosts).cmp

-- what a clash says
abbrev pub cell_pairs : CellClash → CellPairs
cell_pairs k = record { cell = k.cell; pairs = k.pairs }

abbrev pub port_values : PortClash → PortValues
port_values k = record { activity = k.activity; port = k.port; values = k.values }

-- k is of that cell, and has all its pairs in H, in order
abbrev pub HasPairsOf : (Entry → Type 0) → CellOf → CellClash → Type 0
HasPairsOf H c k = (k.cell ≡ c) × IsListOf written_order (PairIn H c) k.pairs

-- k is of that port, and has all its values in H, in order
abbrev pub HasValuesOf : (Entry → Type 0) → Port → PortClash → Type 0
HasValuesOf H p k = (port_of k.activity k.port ≡ p) × IsListOf value_order (ValueAt H p.activity p.number) k.values
