use Rattle.u_claims.proofs.Masking.{set_in}
use Rattle.u_claims.proofs.mask.with.Goals as goal

pub returns : goal.returns
returns c = set_in c.args.mask c.args.bucket c.requires
