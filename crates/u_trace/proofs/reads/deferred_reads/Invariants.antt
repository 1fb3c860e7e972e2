use Rattle.std.proofs.Common.{take, []}
use Rattle.std.specs.Prelude.{Contains}
use Rattle.u_sets.specs.Members.{SomeOf, Gains}
use Rattle.u_sets.specs.Rising.{Rises}
use Rattle.u_trace.specs.Gathering.{ReadsAt}
use Rattle.u_trace.specs.Orders.{read_order}
use Rattle.u_trace.proofs.reads.deferred_reads.Given as goal

abbrev pub invariant-loop-entry : goal.invariant-loop-entry
invariant-loop-entry l = record {
  rises : Rises read_order l.found.items;
  all : Gains [] (SomeOf (take l.entry-index l.entries) (ReadsAt l.program.blocks (Contains l.history))) l.found.items;
}
