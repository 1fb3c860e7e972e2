use Rattle.u_share.proofs.Quieted.{members_agree}
use Rattle.u_share.proofs.sharing.agree.Goals as goal

pub returns : goal.returns
returns c = members_agree c.args.one.now c.args.other.now c.holds.ensures.is c.holds-2.ensures.is
