use Rattle.u_sets.proofs.Keys.{first_out}
use Rattle.u_sets.proofs.tree_set.TreeSet.pop_first.Goals as goal

pub returns-clause-without : goal.returns-clause-without
returns-clause-without g c = rw (← c.self.view_is) (first_out g.K.Ord.cmp g.met.K.Ord.total g.met.K.ExactOrd.exact c.pop_first.result c.self.inside.keys.keys c.pop_first.new.self.keys c.pop_first.ensures.removal c.self.invariant)
