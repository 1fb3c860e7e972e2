use Rattle.std.proofs.Common.{length}
use Rattle.u_source.specs.Lexing.{AreReadBefore}
use Rattle.u_source.proofs.lexing.read_all.Given as goal

abbrev pub invariant-loop-tokens : goal.invariant-loop-tokens
invariant-loop-tokens l = AreReadBefore l.fn.bytes l.tokens.items l.lexer

abbrev pub decreases-loop-tokens : goal.decreases-loop-tokens
decreases-loop-tokens l = length l.lexer.rest.now
