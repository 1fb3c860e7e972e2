use Rattle.std.proofs.Common.{ℕ, ◌+◌, ◌<◌}
use Rattle.u_determinate.specs.Breaches.{IsNoLaterEnd}
use Rattle.u_determinate.proofs.EndFacts.{Ended}
use Rattle.u_determinate.proofs.ends.second_end.Given as goal

abbrev pub invariant-loop-i : goal.invariant-loop-i
invariant-loop-i l = ((m : ℕ) → m < l.i + 1 → IsNoLaterEnd l.block.statements m) × Ended l.block.statements (l.i + 1) l.ended
