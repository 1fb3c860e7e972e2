use Rattle.std.proofs.Common.{◌≡◌, ◌+◌, length}
use Rattle.u_source.specs.Words.{word_len}
use Rattle.u_source.proofs.lexing.word_len.Given as goal

abbrev pub invariant-loop-byte : goal.invariant-loop-byte
invariant-loop-byte l = (word_len l.bytes ≡ l.len + word_len l.rest) × (l.len + length l.rest ≡ length l.bytes)

abbrev pub decreases-loop-byte : goal.decreases-loop-byte
decreases-loop-byte l = length l.rest
