use Rattle.std.proofs.Common.{take}
use Rattle.u_trace.specs.Table.{place_in, StillOwns}
use Rattle.u_trace.specs.Givers.{Notes}
use Rattle.u_trace.proofs.givers.note_all.Given as goal

abbrev pub invariant-loop-entry : goal.invariant-loop-entry
invariant-loop-entry l = record {
  notes : Notes (place_in l.initial.givers) (take l.entry-index l.entries) l.place (place_in l.givers);
  owns : StillOwns l.initial.givers l.givers;
}
