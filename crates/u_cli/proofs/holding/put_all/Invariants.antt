use Rattle.std.proofs.Common.{take}
use Rattle.u_cli.proofs.HeldLaws.{IsUnion}
use Rattle.u_cli.proofs.holding.put_all.Given as goal

abbrev pub invariant-loop-entry : goal.invariant-loop-entry
invariant-loop-entry l = IsUnion l.initial.history (take l.entry-index l.entries) l.history
