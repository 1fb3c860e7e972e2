use Rattle.u_base.proofs.Member.{Contains-nil}
use Rattle.u_sets.proofs.Hashed.{exactly}
use Rattle.u_sets.proofs.Keyed.{at_key}
use Rattle.u_sets.proofs.keyed_set.KeyedSet.under.Goals as goal

pub returns-in-Some-clause-all : goal.returns-in-Some-clause-all
returns-in-Some-clause-all g c v =
    let x = exactly g.K.PartialEq.eq g.K.Ord.cmp g.met.K.ExactOrd.exact g.met.K.Ord.matches_eq in
    let a = at_key g.K.PartialEq.eq g.met.K.Eq.laws x c.self.inside.groups.entries c.self.invariant c.args.key.now v in
    let b = rw (← c.in-Some.ensures.value) at a in
    rw (← c.self.view_is, c.as_slice.ensures.items) (b.1, b.0)

pub returns-in-None-clause-all : goal.returns-in-None-clause-all
returns-in-None-clause-all g c v =
    let x = exactly g.K.PartialEq.eq g.K.Ord.cmp g.met.K.ExactOrd.exact g.met.K.Ord.matches_eq in
    let a = at_key g.K.PartialEq.eq g.met.K.Eq.laws x c.self.inside.groups.entries c.self.invariant c.args.key.now v in
    let b = rw (← c.in-None.ensures.value) at a in
    rw (← c.self.view_is) ((λ m. absurd (Contains-nil v m)), λ m. absurd (Contains-nil v (b.0 m)))
