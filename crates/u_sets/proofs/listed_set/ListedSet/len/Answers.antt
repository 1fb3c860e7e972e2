use Rattle.std.proofs.Common.{◌∙◌, sym}
use Rattle.u_sets.proofs.Hashed.{exactly}
use Rattle.u_sets.proofs.Placed.{distinct}
use Rattle.u_sets.proofs.Listed.{rises, as_many}
use Rattle.u_sets.proofs.listed_set.ListedSet.len.Goals as goal

pub returns-clause-len : goal.returns-clause-len
returns-clause-len g c = rw (← c.self.view_is) (c.len.ensures.len ∙ sym (as_many g.K.Ord.cmp g.met.K.Ord.total g.met.K.ExactOrd.exact c.self.inside.keys.keys (distinct g.K.PartialEq.eq g.met.K.Eq.laws (exactly g.K.PartialEq.eq g.K.Ord.cmp g.met.K.ExactOrd.exact g.met.K.Ord.matches_eq) c.self.inside.keys.keys c.len.ensures.unique)))

pub returns-clause-rises : goal.returns-clause-rises
returns-clause-rises g c = rw (← c.self.view_is) (rises g.K.Ord.cmp g.met.K.Ord.total g.met.K.ExactOrd.exact c.self.inside.keys.keys)
