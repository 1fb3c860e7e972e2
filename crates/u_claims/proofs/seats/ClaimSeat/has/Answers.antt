use Rattle.std.proofs.Common.{◌∙◌}
use Rattle.u_claims.proofs.seats.ClaimSeat.has.Goals as goal

pub returns : goal.returns
returns c = c.is_in.ensures ∙ c.args.self.now.held_known c.args.bucket c.requires
