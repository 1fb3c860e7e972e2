use Rattle.std.proofs.Common.{take}
use Rattle.u_sets.specs.Members.{SomeOf}
use Rattle.u_trace.specs.Table.{place_in}
use Rattle.u_trace.specs.Marks.{IsWanted, Marks}
use Rattle.u_trace.proofs.marks.mark_all.Given as goal

abbrev pub invariant-loop-entry : goal.invariant-loop-entry
invariant-loop-entry l = Marks l.initial.marks (SomeOf (take l.entry-index l.entries) (IsWanted l.start (place_in l.givers))) l.marks
