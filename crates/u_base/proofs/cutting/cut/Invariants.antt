use Rattle.std.proofs.Common.{◌≡◌, ◌+◌, length, take, drop}
use Rattle.u_base.proofs.PiecesLaws.{Free}
use Rattle.u_base.proofs.cutting.cut.Given as goal

abbrev pub invariant-loop-first : goal.invariant-loop-first
invariant-loop-first l = (l.rest ≡ drop l.len l.bytes) × Free l.byte (take l.len l.bytes) × (l.len + length l.rest ≡ length l.bytes)

abbrev pub decreases-loop-first : goal.decreases-loop-first
decreases-loop-first l = length l.rest
