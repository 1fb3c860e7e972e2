use Rattle.std.proofs.Common.{◌≡◌, length}
use Rattle.u_source.specs.Words.{all_digits}
use Rattle.u_source.proofs.lexing.all_digits.Given as goal

abbrev pub invariant-loop-byte : goal.invariant-loop-byte
invariant-loop-byte l = all_digits l.rest ≡ all_digits l.word

abbrev pub decreases-loop-byte : goal.decreases-loop-byte
decreases-loop-byte l = length l.rest
