use Rattle.std.proofs.Common.{take}
use Rattle.u_sets.specs.Members.{IsUnion}
use Rattle.u_trace.proofs.holding.put_entries.Given as goal

abbrev pub invariant-loop-entry : goal.invariant-loop-entry
invariant-loop-entry l = IsUnion l.initial.held (take l.entry-index l.entries) l.held
