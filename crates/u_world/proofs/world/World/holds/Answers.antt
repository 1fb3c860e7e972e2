use Rattle.std.proofs.Common.{subst}
use Rattle.u_world.specs.Headline.{KeepsTheHeadline}
use Rattle.u_world.specs.Inside.{world_of}
use Rattle.u_world.proofs.Headlines.{keeps_the_headline}
use Rattle.u_world.proofs.world.World.holds.Goals as goal

pub returns-clause-headline : goal.returns-clause-headline
returns-clause-headline c = subst KeepsTheHeadline c.self.view_is (keeps_the_headline (world_of c.self.inside.inside) c.self.invariant)
