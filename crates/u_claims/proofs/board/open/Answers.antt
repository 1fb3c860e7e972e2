use Rattle.std.proofs.Common.{rules}
use Rattle.u_claims.proofs.SeatSteps.{opens}
use Rattle.u_claims.proofs.board.open.Goals as goal

pub of_words-requires : goal.of_words-requires
of_words-requires c = opens c.args.seats _ (search rules)
