use Rattle.u_world.proofs.Headlines.{agree_on_sets}
use Rattle.u_world.proofs.world.World.agrees_with.Goals as goal

pub returns : goal.returns
returns c = agree_on_sets c.args.self.now c.args.other.now c.holds.ensures.is c.holds-2.ensures.is
