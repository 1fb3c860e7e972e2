use Rattle.std.proofs.Common.{take}
use Rattle.u_sets.specs.Members.{IsUnion}
use Rattle.u_history.proofs.history.History.put_all.Given as goal

abbrev pub invariant-loop-entry : goal.invariant-loop-entry
invariant-loop-entry l = IsUnion l.initial.self (take l.entry-index l.entries) l.self
