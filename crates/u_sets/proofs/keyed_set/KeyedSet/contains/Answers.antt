use Rattle.u_base.proofs.Member.{Contains-nil}
use Rattle.u_sets.proofs.Hashed.{exactly}
use Rattle.u_sets.proofs.Keyed.{at_key}
use Rattle.u_sets.proofs.keyed_set.KeyedSet.contains.Goals as goal

pub returns-in-Some : goal.returns-in-Some
returns-in-Some g c =
    let x = exactly g.K.PartialEq.eq g.K.Ord.cmp g.met.K.ExactOrd.exact g.met.K.Ord.matches_eq in
    let a = at_key g.K.PartialEq.eq g.met.K.Eq.laws x c.self.inside.groups.entries c.self.invariant c.args.key.now c.args.value.now in
    let b = rw (← c.in-Some.ensures.value) at a in
    rw (← c.self.view_is) ((λ h. b.1 (c.contains.ensures.0 h)), λ m. c.contains.ensures.1 (b.0 m))

pub returns-in-None : goal.returns-in-None
returns-in-None g c =
    let x = exactly g.K.PartialEq.eq g.K.Ord.cmp g.met.K.ExactOrd.exact g.met.K.Ord.matches_eq in
    let a = at_key g.K.PartialEq.eq g.met.K.Eq.laws x c.self.inside.groups.entries c.self.invariant c.args.key.now c.args.value.now in
    let b = rw (← c.in-None.ensures.value) at a in
    rw (← c.self.view_is) ((λ h. absurd (cc)), λ m. absurd (Contains-nil c.args.value.now (b.0 m)))
