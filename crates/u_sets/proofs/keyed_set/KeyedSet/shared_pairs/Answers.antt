use Rattle.std.proofs.Common.{◌≡◌, ◌↔◌, map, sym, subst, List, Contains}
use Rattle.std.specs.Map.Iter.{deref_pair}
use Rattle.u_base.specs.Firing.{Distinct}
use Rattle.u_sets.specs.Pairs.{pairs_of, pairs_of_many, GroupsAreDistinct, HasAnother}
use Rattle.u_sets.proofs.Hashed.{exactly}
use Rattle.u_sets.proofs.Keyed.{ok_then, shared, many_distinct}
use Rattle.u_sets.proofs.keyed_set.KeyedSet.shared_pairs.Goals as goal

pub returns-clause-all : goal.returns-clause-all
returns-clause-all g c =
    let es = c.self.inside.groups.entries in
    let x = exactly g.K.PartialEq.eq g.K.Ord.cmp g.met.K.ExactOrd.exact g.met.K.Ord.matches_eq in
    rw (← c.self.view_is)
    (ok_then c.gather.result (λ v. map deref_pair v.items ≡ pairs_of_many 2 es) (λ _. GroupsAreDistinct es)
    (λ v. (k : g.row.K.Denot) (y : g.row.V.Denot) → Contains (map deref_pair v.items) (k, y) ↔ (Contains (pairs_of es) (k, y) × HasAnother (λ z. Contains (pairs_of es) (k, z)) y)) c.gather.ensures.all c.gather.ensures.apart
    (λ v a d k y. subst (λ (ps : List _). Contains ps (k, y) ↔ (Contains (pairs_of es) (k, y) × HasAnother (λ z. Contains (pairs_of es) (k, z)) y)) (sym a) (shared g.K.PartialEq.eq g.met.K.Eq.laws x es c.self.invariant d k y)))

pub returns-clause-distinct : goal.returns-clause-distinct
returns-clause-distinct g c =
    let es = c.self.inside.groups.entries in
    let x = exactly g.K.PartialEq.eq g.K.Ord.cmp g.met.K.ExactOrd.exact g.met.K.Ord.matches_eq in
    ok_then c.gather.result (λ v. map deref_pair v.items ≡ pairs_of_many 2 es) (λ _. GroupsAreDistinct es) (λ v. Distinct (map deref_pair v.items)) c.gather.ensures.all c.gather.ensures.apart
    (λ v a d. subst (λ (ps : List _). Distinct ps) (sym a) (many_distinct g.K.PartialEq.eq g.met.K.Eq.laws x 2 es c.self.invariant d))
