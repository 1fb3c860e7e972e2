use Rattle.std.proofs.Common.{take, []}
use Rattle.std.specs.Prelude.{Contains}
use Rattle.u_sets.specs.Members.{SomeOf, Gains}
use Rattle.u_sets.specs.Rising.{Rises}
use Rattle.u_trace.specs.Gathering.{WaitsAt}
use Rattle.u_trace.specs.Orders.{waiting_order}
use Rattle.u_trace.proofs.activities.waiting_activities.Given as goal

abbrev pub invariant-loop-entry : goal.invariant-loop-entry
invariant-loop-entry l = record {
  rises : Rises waiting_order l.found.items;
  all : Gains [] (SomeOf (take l.entry-index l.entries) (WaitsAt l.program.blocks (Contains l.history))) l.found.items;
}
