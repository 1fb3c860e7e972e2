use Rattle.std.proofs.Common.{take}
use Rattle.std.specs.Prelude.{Contains}
use Rattle.u_sets.specs.Members.{SomeOf, Gains}
use Rattle.u_sets.specs.Rising.{Rises}
use Rattle.u_trace.specs.Gathering.{ReadsOn}
use Rattle.u_trace.specs.Orders.{read_order}
use Rattle.u_trace.proofs.reads.add_reads_with.Given as goal

abbrev pub invariant-loop-index : goal.invariant-loop-index
invariant-loop-index l = record {
  rises : Rises read_order l.found.items;
  all : Gains l.initial.found.items (SomeOf (take l.index-index l.indices) (ReadsOn (Contains l.history) l.reader l.structure)) l.found.items;
}
