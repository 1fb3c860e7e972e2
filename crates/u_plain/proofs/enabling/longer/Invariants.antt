use Rattle.std.proofs.Common.{◌≡◌, take}
use Rattle.u_plain.proofs.enabling.longer.Given as goal

abbrev pub invariant-loop-known : goal.invariant-loop-known
invariant-loop-known l = l.values.items ≡ take l.known-index l.made.values
