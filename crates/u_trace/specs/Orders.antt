-- The orders of waiting activities and of deferred reads.
use Rattle.std.specs.Ordering.{ordering_then}
use Rattle.std.specs.declared.cmp.Ordering.{Ordering}
use Rattle.u_name.specs.NameOrder.{name_cmp}
use Rattle.u_name.specs.Cell.{cell_cmp}
use Rattle.u_trace.specs.declared.activities.WaitingActivity.{WaitingActivity}
use Rattle.u_trace.specs.declared.reads.DeferredRead.{DeferredRead}
use Rattle.u_trace.specs.contracts.activities.WaitingActivityOrd.TheImpl as waiting_ord
use Rattle.u_trace.specs.contracts.reads.DeferredReadOrd.TheImpl as read_ord

-- by the name of the activity
abbrev pub by_activity : WaitingActivity → WaitingActivity → Ordering
by_activity a b = name_cmp a.activity b.activity

-- by the name of the activity that reads, and then by cell
abbrev pub by_reader : DeferredRead → DeferredRead → Ordering
by_reader a b = ordering_then (name_cmp a.reader b.reader) (cell_cmp a.cell b.cell)

-- the derived orders, by which the lists are kept
abbrev pub waiting_order : WaitingActivity → WaitingActivity → Ordering
waiting_order = (waiting_ord.ghosts).cmp

abbrev pub read_order : DeferredRead → DeferredRead → Ordering
read_order = (read_ord.ghosts).cmp
