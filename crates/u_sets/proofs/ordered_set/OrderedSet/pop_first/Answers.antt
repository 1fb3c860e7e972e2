use Rattle.u_sets.proofs.Turned.{popped_without, popped_fronted}
use Rattle.u_sets.proofs.ordered_set.OrderedSet.pop_first.Goals as goal

pub invariant_of-self-2 : goal.invariant_of-self-2
invariant_of-self-2 g c = popped_fronted g.K.Ord.cmp g.met.K.Ord.total c.self.inside.others c.pop.result c.self.inside.front.items c.pop.new.self.items c.self.invariant c.pop.ensures.items

pub returns-clause-without : goal.returns-clause-without
returns-clause-without g c =
    rw (← c.self.view_is) (popped_without g.K.Ord.cmp g.met.K.Ord.total c.self.inside.others c.pop.result c.self.inside.front.items c.pop.new.self.items c.self.invariant.rises c.pop.ensures.items)
