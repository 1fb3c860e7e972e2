use Rattle.u_claims.proofs.Masking.{set_out}
use Rattle.u_claims.proofs.mask.without.Goals as goal

pub returns : goal.returns
returns c = set_out c.args.mask c.args.bucket c.requires
