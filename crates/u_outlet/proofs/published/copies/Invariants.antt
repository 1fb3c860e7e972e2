use Rattle.std.proofs.Common.{◌≡◌, take}
use Rattle.u_outlet.proofs.published.copies.Given as goal

abbrev pub invariant-loop-firing : goal.invariant-loop-firing
invariant-loop-firing l = l.made.items ≡ take l.firing-index l.firings
