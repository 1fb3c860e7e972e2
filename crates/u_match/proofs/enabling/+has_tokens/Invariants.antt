use Rattle.std.proofs.Common.{length}
use Rattle.u_match.proofs.enabling.+has_tokens.Given as goal

abbrev pub decreases-has_tokens : goal.decreases-has_tokens
decreases-has_tokens l = length l.values.now
