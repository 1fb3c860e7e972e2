use Rattle.std.proofs.Common.{◌≡◌, ◌++◌, take}
use Rattle.u_pictures.specs.Dot.{escaped}
use Rattle.u_pictures.proofs.dot.push_escaped.Given as goal

abbrev pub invariant-loop-byte : goal.invariant-loop-byte
invariant-loop-byte l = l.out.items ≡ l.initial.out.items ++ escaped (take l.byte-index l.text)
