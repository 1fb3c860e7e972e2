use Rattle.u_sets.proofs.Hashed.{exactly}
use Rattle.u_sets.proofs.Listed.{sorted_up, sorted_same}
use Rattle.u_sets.proofs.rising.put_in_order.Goals as goal

pub returns-clause-rises : goal.returns-clause-rises
returns-clause-rises g c = sorted_up g.T.PartialEq.eq g.met.T.Eq.laws (exactly g.T.PartialEq.eq g.T.Ord.cmp g.met.T.ExactOrd.exact g.met.T.Ord.matches_eq) g.T.Ord.cmp g.met.T.Ord.total g.met.T.ExactOrd.exact c.args.list.now.items c.sort_unstable.new.self.items c.requires c.sort_unstable.ensures.permutation c.sort_unstable.ensures.sorted

pub returns-clause-same : goal.returns-clause-same
returns-clause-same g c = sorted_same g.T.PartialEq.eq g.met.T.Eq.laws (exactly g.T.PartialEq.eq g.T.Ord.cmp g.met.T.ExactOrd.exact g.met.T.Ord.matches_eq) g.T.Ord.cmp g.met.T.Ord.total g.met.T.ExactOrd.exact c.args.list.now.items c.sort_unstable.new.self.items c.sort_unstable.ensures.permutation
