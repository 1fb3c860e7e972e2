use Rattle.std.proofs.Common.{◌≡◌, length}
use Rattle.u_source.specs.Marks.{sign_among}
use Rattle.u_source.proofs.mark.sign_among.Given as goal

abbrev pub invariant-loop-mark : goal.invariant-loop-mark
invariant-loop-mark l = sign_among l.rest l.bytes ≡ sign_among l.marks l.bytes

abbrev pub decreases-loop-mark : goal.decreases-loop-mark
decreases-loop-mark l = length l.rest
