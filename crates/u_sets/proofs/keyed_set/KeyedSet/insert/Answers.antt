use Rattle.std.proofs.Common.{◌≡◌, ◌∙◌, ap, sym, subst, refl, ◌∷◌, [], Some, cond}
use Rattle.std.specs.Prelude.{IsSome}
use Rattle.u_base.proofs.Member.{Contains-nil}
use Rattle.u_sets.specs.Members.{IsWith}
use Rattle.u_sets.specs.Pairs.{items_of, pairs_of}
use Rattle.u_sets.specs.declared.few.Few.{Few}
use Rattle.u_sets.specs.declared.few.Few.TheVariants.{One}
use Rattle.std.specs.HashMap.{get}
use Rattle.u_sets.proofs.Hashed.{exactly}
use Rattle.u_sets.proofs.Keyed.{at_key, items_at, alone, one_pair_more, same_pairs}
use Rattle.u_sets.proofs.keyed_set.KeyedSet.insert.Goals as goal

pub returns-in-Ok-clause-ok : goal.returns-in-Ok-clause-ok
returns-in-Ok-clause-ok g c =
    let E = g.K.PartialEq.eq in
    let x = exactly g.K.PartialEq.eq g.K.Ord.cmp g.met.K.ExactOrd.exact g.met.K.Ord.matches_eq in
    let es = c.self.inside.groups.entries in
    let found = c.in-Some.ensures.value in
    let there : IsSome (Some c.in-Some.few.now) = refl in
    let now = c.get_mut.follows.holds c.insert.new.self in
    let up = now.3 (subst (λ o. IsSome o) found there) in
    rw (← c.self.view_is) (one_pair_more E g.met.K.Eq.laws x es (c.get_mut.follows.lender c.insert.new.self).entries c.self.invariant now.4 c.args.key c.args.value c.insert.new.self up.0
    (subst (λ o. IsWith (items_at o) c.args.value (items_of c.insert.new.self)) found c.in-Ok.ensures.ok))

pub returns-in-Ok-clause-new : goal.returns-in-Ok-clause-new
returns-in-Ok-clause-new g c =
    let x = exactly g.K.PartialEq.eq g.K.Ord.cmp g.met.K.ExactOrd.exact g.met.K.Ord.matches_eq in
    let a = at_key g.K.PartialEq.eq g.met.K.Eq.laws x c.self.inside.groups.entries c.self.invariant c.args.key c.args.value in
    let b = rw (← c.in-Some.ensures.value) at a in
    rw (← c.self.view_is) ((λ t m. c.in-Ok.ensures.new.0 t (b.0 m)), λ n. c.in-Ok.ensures.new.1 (λ m. n (b.1 m)))

pub returns-in-Ok-clause-still : goal.returns-in-Ok-clause-still
returns-in-Ok-clause-still g c n =
    let now = c.get_mut.follows.holds c.insert.new.self in
    rw (← c.self.view_is) (ap (λ es. pairs_of es) now.0 ∙ same_pairs (g.K.PartialEq.eq c.args.key) c.self.inside.groups.entries c.in-Some.few.now c.insert.new.self (sym c.in-Some.ensures.value) (ap (λ f. items_of f) (c.in-Ok.ensures.still n)))

pub returns-in-Err-clause-err : goal.returns-in-Err-clause-err
returns-in-Err-clause-err g c =
    let now = c.get_mut.follows.holds c.insert.new.self in
    rw (← c.self.view_is) (ap (λ es. pairs_of es) now.0 ∙ same_pairs (g.K.PartialEq.eq c.args.key) c.self.inside.groups.entries c.in-Some.few.now c.insert.new.self (sym c.in-Some.ensures.value) c.in-Err.ensures.err)

pub returns-in-Ok-insert-clause-ok : goal.returns-in-Ok-insert-clause-ok
returns-in-Ok-insert-clause-ok g c =
    let E = g.K.PartialEq.eq in
    let x = exactly g.K.PartialEq.eq g.K.Ord.cmp g.met.K.ExactOrd.exact g.met.K.Ord.matches_eq in
    let es = c.self.inside.groups.entries in
    let few : Few g.row.V.Denot = One c.args.value in
    let up = subst (λ m. (q : g.row.K.Denot) → get E c.insert-2.new.self q ≡ cond (E c.args.key q) (Some few) (get E m q)) c.get_mut.follows.holds-at-none c.in-Ok-insert.ensures.updates.0 in
    rw (← c.self.view_is) (one_pair_more E g.met.K.Eq.laws x es c.insert-2.new.self.entries c.self.invariant c.in-Ok-insert.ensures.unique c.args.key c.args.value few up
    (subst (λ o. IsWith (items_at o) c.args.value (c.args.value ∷ [])) c.in_default.ensures.value (alone c.args.value)))

pub returns-in-Ok-insert-clause-new : goal.returns-in-Ok-insert-clause-new
returns-in-Ok-insert-clause-new g c =
    let x = exactly g.K.PartialEq.eq g.K.Ord.cmp g.met.K.ExactOrd.exact g.met.K.Ord.matches_eq in
    let a = at_key g.K.PartialEq.eq g.met.K.Eq.laws x c.self.inside.groups.entries c.self.invariant c.args.key c.args.value in
    let b = rw (← c.in_default.ensures.value) at a in
    rw (← c.self.view_is) ((λ t m. Contains-nil c.args.value (b.0 m)), λ n. refl)
