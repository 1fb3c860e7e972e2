use Rattle.u_sets.proofs.Keys.{inserts, rises_still, was_new}
use Rattle.u_sets.proofs.tree_set.TreeSet.insert.Goals as goal

pub invariant_of-self-2 : goal.invariant_of-self-2
invariant_of-self-2 g c = rw c.in_ok-added.ensures.keys (rises_still g.K.Ord.cmp g.met.K.Ord.total g.met.K.ExactOrd.exact c.self.inside.keys.keys c.args.key c.self.invariant)

pub returns-clause-ok : goal.returns-clause-ok
returns-clause-ok g c = rw (c.in_ok-added.ensures.keys, ← c.self.view_is) (inserts g.K.Ord.cmp g.met.K.Ord.total g.met.K.ExactOrd.exact c.self.inside.keys.keys c.args.key)

pub returns-clause-new : goal.returns-clause-new
returns-clause-new g c = rw (← c.self.view_is) (was_new g.K.Ord.cmp g.met.K.Ord.total g.met.K.ExactOrd.exact c.self.inside.keys.keys c.args.key c.in_ok-added.added c.in_ok-added.ensures.added)

pub returns-clause-rises : goal.returns-clause-rises
returns-clause-rises g c = rw c.in_ok-added.ensures.keys (rises_still g.K.Ord.cmp g.met.K.Ord.total g.met.K.ExactOrd.exact c.self.inside.keys.keys c.args.key c.self.invariant)
