-- Entries, firings and their parts from their fields; their derived orders; how lists are stored.
use Rattle.std.specs.Prelude.{List, Option}
use Rattle.std.specs.Coded.{Coded, coded_list}
use Rattle.std.specs.declared.cmp.Ordering.{Ordering}
use Rattle.u_name.specs.Name.{Activity}
use Rattle.u_name.specs.Cell.{CellOf}
use Rattle.u_value.specs.declared.value.Value.{Value}
use Rattle.u_rule.specs.Parts.{ValueList}
use Rattle.u_rule.specs.declared.parts.Write.{Write}
use Rattle.u_rule.specs.declared.entry.Entry.{Entry}
use Rattle.u_rule.specs.declared.firing.Firing.{Firing}
use Rattle.u_rule.specs.declared.parts.Written.{Written}
use Rattle.u_rule.specs.contracts.entry.Entry as entry_row
use Rattle.u_rule.specs.contracts.firing.Firing as firing_row
use Rattle.u_rule.specs.contracts.entry.EntryOrd.TheImpl as entry_ord
use Rattle.u_rule.specs.contracts.firing.FiringOrd.TheImpl as firing_ord

abbrev pub write_of : CellOf → Activity → Value → Write
write_of cell writer value = record { cell = cell; writer = writer; value = value }

abbrev pub written : Activity → Value → Written
written writer value = record { writer = writer; value = value }

abbrev pub firing : Activity → ValueList → Option Written → Firing
firing activity values write = record { activity = activity; values = values; write = write }

-- the derived order of entries; `Entry::compare` says it in plain words
abbrev pub entry_cmp : Entry → Entry → Ordering
entry_cmp = (entry_ord.ghosts).cmp

-- the derived order of firings; `Firing::compare` says it in plain words
abbrev pub firing_cmp : Firing → Firing → Ordering
firing_cmp = (firing_ord.ghosts).cmp

-- how lists of entries and of firings are stored
abbrev pub EntryList : Type 0
EntryList = List Entry

abbrev pub entry_list_code : Coded EntryList
entry_list_code = coded_list entry_row.the_row.coded

abbrev pub FiringList : Type 0
FiringList = List Firing

abbrev pub firing_list_code : Coded FiringList
firing_list_code = coded_list firing_row.the_row.coded
