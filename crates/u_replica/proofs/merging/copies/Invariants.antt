use Rattle.std.proofs.Common.{◌≡◌, take}
use Rattle.u_replica.proofs.merging.copies.Given as goal

abbrev pub invariant-loop-firing : goal.invariant-loop-firing
invariant-loop-firing l = l.all.items ≡ take l.firing-index l.firings
