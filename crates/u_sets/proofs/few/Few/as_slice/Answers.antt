use Rattle.u_sets.proofs.Hashed.{exactly}
use Rattle.u_sets.proofs.Placed.{distinct}
use Rattle.u_sets.proofs.few.Few.as_slice.Goals as goal

pub returns-in-Many-clause-distinct : goal.returns-in-Many-clause-distinct
returns-in-Many-clause-distinct g c = rw (c.in-Many.is, ← c.deref.ensures) (distinct g.V.PartialEq.eq g.met.V.Eq.laws (exactly g.V.PartialEq.eq g.V.Ord.cmp g.met.V.ExactOrd.exact g.met.V.Ord.matches_eq) c.deref.result.now.keys c.as_slice.ensures.unique)
