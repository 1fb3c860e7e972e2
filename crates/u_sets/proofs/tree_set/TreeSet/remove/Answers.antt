use Rattle.std.proofs.Common.{◌∙◌, sym}
use Rattle.u_sets.proofs.Keys.{found, finds, removes, rises_without}
use Rattle.u_sets.proofs.tree_set.TreeSet.remove.Goals as goal

pub invariant_of-self : goal.invariant_of-self
invariant_of-self g c = rw c.remove.ensures.keys (rises_without g.K.Ord.cmp g.met.K.Ord.total g.met.K.ExactOrd.exact c.self.inside.keys.keys c.args.key.now c.self.invariant)

pub returns-clause-without : goal.returns-clause-without
returns-clause-without g c = rw (c.remove.ensures.keys, ← c.self.view_is) (removes g.K.Ord.cmp g.met.K.Ord.total g.met.K.ExactOrd.exact c.self.inside.keys.keys c.args.key.now c.self.invariant)

pub returns-clause-was : goal.returns-clause-was
returns-clause-was g c = rw (← c.self.view_is) ((λ h. found g.K.Ord.cmp g.met.K.Ord.total g.met.K.ExactOrd.exact c.self.inside.keys.keys c.args.key.now (sym c.remove.ensures.test ∙ h)), λ m. c.remove.ensures.test ∙ finds g.K.Ord.cmp g.met.K.Ord.total g.met.K.ExactOrd.exact c.self.inside.keys.keys c.args.key.now m)

pub returns-clause-rises : goal.returns-clause-rises
returns-clause-rises g c = rw c.remove.ensures.keys (rises_without g.K.Ord.cmp g.met.K.Ord.total g.met.K.ExactOrd.exact c.self.inside.keys.keys c.args.key.now c.self.invariant)
