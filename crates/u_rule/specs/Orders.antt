-- The orders of entries and of firings, in plain words.
use Rattle.std.specs.Option.{option_cmp}
use Rattle.std.specs.Ordering.{ordering_then, nat_cmp}
use Rattle.std.specs.Cmp.Lexicographic.{slice_cmp}
use Rattle.std.specs.declared.cmp.Ordering.{Ordering}
use Rattle.std.specs.declared.cmp.Ordering.TheVariants.{Less, Greater}
use Rattle.u_name.specs.NameOrder.{name_cmp}
use Rattle.u_name.specs.Cell.{cell_cmp}
use Rattle.u_value.specs.Values.{value_cmp}
use Rattle.u_value.specs.FaultKinds.{fault_kind_cmp}
use Rattle.u_rule.specs.Parts.{TokenParts, ValueList}
use Rattle.u_rule.specs.declared.parts.Write.{Write}
use Rattle.u_rule.specs.declared.parts.Fault.{Fault}
use Rattle.u_rule.specs.declared.entry.Entry.{Entry}
use Rattle.u_rule.specs.declared.entry.Entry.TheVariants as entries
use Rattle.u_rule.specs.declared.firing.Firing.{Firing}
use Rattle.u_rule.specs.declared.parts.Written.{Written}

-- by activity, port and value
abbrev pub token_cmp : TokenParts → TokenParts → Ordering
token_cmp a b = ordering_then (name_cmp a.activity b.activity) (ordering_then (nat_cmp a.port b.port) (value_cmp a.value b.value))

-- by cell, writer and value
abbrev pub write_cmp : Write → Write → Ordering
write_cmp a b = ordering_then (cell_cmp a.cell b.cell) (ordering_then (name_cmp a.writer b.writer) (value_cmp a.value b.value))

-- by activity and kind
abbrev pub fault_cmp : Fault → Fault → Ordering
fault_cmp a b = ordering_then (name_cmp a.activity b.activity) (fault_kind_cmp a.kind b.kind)

-- tokens come before writes, writes before faults, and faults before answers; answers go by value
abbrev pub entry_order : Entry → Entry → Ordering
entry_order (entries.Token a) (entries.Token b) = token_cmp a b
entry_order (entries.Token a) y = Less
entry_order (entries.Write a) (entries.Token b) = Greater
entry_order (entries.Write a) (entries.Write b) = write_cmp a b
entry_order (entries.Write a) y = Less
entry_order (entries.Fault a) (entries.Fault b) = fault_cmp a b
entry_order (entries.Fault a) (entries.Answer b) = Less
entry_order (entries.Fault a) y = Greater
entry_order (entries.Answer a) (entries.Answer b) = value_cmp a b
entry_order (entries.Answer a) y = Greater

-- one value after another; a list comes before those that go on behind it
abbrev pub values_cmp : ValueList → ValueList → Ordering
values_cmp = slice_cmp value_cmp

-- by writer and value
abbrev pub written_cmp : Written → Written → Ordering
written_cmp a b = ordering_then (name_cmp a.writer b.writer) (value_cmp a.value b.value)

-- by activity, values and write; no write comes before each write
abbrev pub firing_order : Firing → Firing → Ordering
firing_order a b =
    ordering_then (name_cmp a.activity b.activity)
    (ordering_then (values_cmp a.values b.values) (option_cmp written_cmp a.write b.write))
