use Rattle.std.proofs.Common.{◌≡◌, ◌+◌, length}
use Rattle.u_source.specs.Words.{gap, gap_from}
use Rattle.u_source.proofs.lexing.gap_len.Given as goal

abbrev pub invariant-loop-byte : goal.invariant-loop-byte
invariant-loop-byte l = (gap l.bytes ≡ l.len + gap_from l.comment l.rest) × (l.len + length l.rest ≡ length l.bytes)

abbrev pub decreases-loop-byte : goal.decreases-loop-byte
decreases-loop-byte l = length l.rest
