use Rattle.u_sets.proofs.Hashed.{exactly}
use Rattle.u_sets.proofs.Listed.{rises, listed}
use Rattle.u_sets.proofs.listed_set.ListedSet.in_order.Goals as goal

pub returns-in_err-all-clause-rises : goal.returns-in_err-all-clause-rises
returns-in_err-all-clause-rises g c = rw (← c.self.view_is) (rises g.K.Ord.cmp g.met.K.Ord.total g.met.K.ExactOrd.exact c.self.inside.keys.keys)

pub returns-clause-all : goal.returns-clause-all
returns-clause-all g c = rw (← c.self.view_is) (listed g.K.PartialEq.eq g.met.K.Eq.laws (exactly g.K.PartialEq.eq g.K.Ord.cmp g.met.K.ExactOrd.exact g.met.K.Ord.matches_eq) g.K.Ord.cmp g.met.K.Ord.total g.met.K.ExactOrd.exact c.self.inside.keys.keys c.in_ok-all.all.items c.sort_unstable.new.self.items c.in_ok-all.ensures.all c.in_ok-all.ensures.unique c.sort_unstable.ensures.permutation c.sort_unstable.ensures.sorted)

pub returns-clause-rises : goal.returns-clause-rises
returns-clause-rises g c = rw (← c.self.view_is) (rises g.K.Ord.cmp g.met.K.Ord.total g.met.K.ExactOrd.exact c.self.inside.keys.keys)
