use Rattle.u_sets.proofs.Hashed.{exactly, was_new}
use Rattle.u_sets.proofs.Placed.{distinct, goes_last}
use Rattle.u_sets.proofs.placed_set.PlacedSet.insert.Goals as goal

pub invariant_of-self-2 : goal.invariant_of-self-2
invariant_of-self-2 g c = distinct g.K.PartialEq.eq g.met.K.Eq.laws (exactly g.K.PartialEq.eq g.K.Ord.cmp g.met.K.ExactOrd.exact g.met.K.Ord.matches_eq) c.insert_full.new.self.keys c.in_ok-placed.ensures.unique

pub returns-clause-ok : goal.returns-clause-ok
returns-clause-ok g c = rw (← c.self.view_is) (rw c.in_ok-placed.ensures.keys (goes_last g.K.PartialEq.eq g.met.K.Eq.laws (exactly g.K.PartialEq.eq g.K.Ord.cmp g.met.K.ExactOrd.exact g.met.K.Ord.matches_eq) c.self.inside.keys.keys c.args.key))

pub returns-clause-new : goal.returns-clause-new
returns-clause-new g c = rw (← c.self.view_is) (was_new g.K.PartialEq.eq g.met.K.Eq.laws (exactly g.K.PartialEq.eq g.K.Ord.cmp g.met.K.ExactOrd.exact g.met.K.Ord.matches_eq) c.self.inside.keys.keys c.args.key c.in_ok-placed.placed.1 c.in_ok-placed.ensures.added)

pub returns-clause-distinct : goal.returns-clause-distinct
returns-clause-distinct g c = distinct g.K.PartialEq.eq g.met.K.Eq.laws (exactly g.K.PartialEq.eq g.K.Ord.cmp g.met.K.ExactOrd.exact g.met.K.Ord.matches_eq) c.insert_full.new.self.keys c.in_ok-placed.ensures.unique
