use Rattle.u_sets.proofs.Hashed.{exactly}
use Rattle.u_sets.proofs.Placed.{placed}
use Rattle.u_sets.proofs.placed_set.PlacedSet.place_of.Goals as goal

pub returns-clause-place : goal.returns-clause-place
returns-clause-place g c = rw (← c.self.view_is) (placed g.K.PartialEq.eq g.met.K.Eq.laws (exactly g.K.PartialEq.eq g.K.Ord.cmp g.met.K.ExactOrd.exact g.met.K.Ord.matches_eq) c.self.inside.keys.keys c.args.key.now c.get_index_of.result c.get_index_of.ensures.index)
