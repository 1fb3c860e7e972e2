use Rattle.std.proofs.Common.{take, Contains}
use Rattle.u_rule.specs.declared.entry.Entry.{Entry}
use Rattle.u_plain.proofs.enabling.are_in.Given as goal

abbrev pub invariant-loop-entry : goal.invariant-loop-entry
invariant-loop-entry l = (x : Entry) → Contains (take l.entry-index l.entries) x → Contains l.list x
