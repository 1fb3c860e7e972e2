use Rattle.std.proofs.Common.{◌≡◌, ◌∙◌, map, sym, subst, List}
use Rattle.std.specs.Map.Iter.{deref_pair}
use Rattle.u_base.specs.Firing.{Distinct}
use Rattle.u_sets.specs.Pairs.{pairs_of_many, GroupsAreDistinct}
use Rattle.u_sets.proofs.Hashed.{exactly}
use Rattle.u_sets.proofs.Keyed.{ok_then, all_of_many, many_distinct}
use Rattle.u_sets.proofs.keyed_set.KeyedSet.pairs.Goals as goal

pub returns-clause-all : goal.returns-clause-all
returns-clause-all g c =
    let es = c.self.inside.groups.entries in
    ok_then c.gather.result (λ v. map deref_pair v.items ≡ pairs_of_many 0 es) (λ _. GroupsAreDistinct es) (λ v. map deref_pair v.items ≡ c.args.self.now) c.gather.ensures.all c.gather.ensures.apart
    (λ v a d. a ∙ all_of_many es ∙ c.self.view_is)

pub returns-clause-distinct : goal.returns-clause-distinct
returns-clause-distinct g c =
    let es = c.self.inside.groups.entries in
    let x = exactly g.K.PartialEq.eq g.K.Ord.cmp g.met.K.ExactOrd.exact g.met.K.Ord.matches_eq in
    ok_then c.gather.result (λ v. map deref_pair v.items ≡ pairs_of_many 0 es) (λ _. GroupsAreDistinct es) (λ v. Distinct (map deref_pair v.items)) c.gather.ensures.all c.gather.ensures.apart
    (λ v a d. subst (λ (ps : List _). Distinct ps) (sym a) (many_distinct g.K.PartialEq.eq g.met.K.Eq.laws x 0 es c.self.invariant d))
