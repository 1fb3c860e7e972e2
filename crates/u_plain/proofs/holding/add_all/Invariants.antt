use Rattle.std.proofs.Common.{◌≡◌, ◌++◌, take}
use Rattle.u_plain.proofs.holding.add_all.Given as goal

abbrev pub invariant-loop-entry : goal.invariant-loop-entry
invariant-loop-entry l = l.all.items ≡ l.fn.all.items ++ take l.entry-index l.more
