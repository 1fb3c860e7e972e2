use Rattle.std.proofs.Common.{take}
use Rattle.u_trace.specs.Table.{place_in, StillOwns}
use Rattle.u_trace.specs.Givers.{Notes}
use Rattle.u_trace.proofs.givers.note_sent.Given as goal

abbrev pub invariant-loop-at : goal.invariant-loop-at
invariant-loop-at l = record {
  notes : Notes (place_in l.initial.givers) (take l.at l.sent) l.place (place_in l.givers);
  owns : StillOwns l.initial.givers l.givers;
}
