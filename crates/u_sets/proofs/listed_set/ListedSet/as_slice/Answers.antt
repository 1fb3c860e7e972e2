use Rattle.u_sets.proofs.Listed.{members}
use Rattle.u_sets.proofs.listed_set.ListedSet.as_slice.Goals as goal

pub returns : goal.returns
returns g c = rw (← c.self.view_is, c.as_slice.ensures.keys) (λ x. let m = members g.K.Ord.cmp g.met.K.Ord.total g.met.K.ExactOrd.exact c.self.inside.keys.keys x in (m.1, m.0))
