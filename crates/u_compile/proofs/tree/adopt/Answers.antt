use Rattle.u_compile.proofs.ForestLaws.{adopts_none, adopts_more}
use Rattle.u_compile.proofs.tree.adopt.Goals as goal

pub adopting-init : goal.adopting-init
adopting-init c = adopts_none c.args.number c.args.parents.now.items c.args.roots.now.items

pub adopting-preserved : goal.adopting-preserved
adopting-preserved c = adopts_more c.args.number c.adopting.counter c.in-Some.child c.args.parents.now.items c.args.roots.now.items c.adopting.parents.items c.adopting.roots.items c.set_parent.new.parents.items c.pop.new.self.items c.adopting.invariant c.in-Some.ensures.items c.in_ok-set_parent.ensures.there c.in_ok-set_parent.ensures.sets
