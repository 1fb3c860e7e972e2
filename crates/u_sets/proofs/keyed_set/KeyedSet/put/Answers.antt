use Rattle.std.proofs.Common.{◌≡◌, ◌↔◌, ◌∙◌, ap, sym, subst, refl, ◌∷◌, [], Some, None, cond, Contains, IsTrue}
use Rattle.std.specs.Map.{lookup}
use Rattle.std.specs.List.{IsDistinct}
use Rattle.indexmap.specs.IndexMap.{set_value_at}
use Rattle.indexmap.proofs.CallerLemmas.{keys-with_value_at, updates-with_value_at}
use Rattle.u_base.proofs.Member.{Contains-nil}
use Rattle.u_sets.specs.Members.{IsWith}
use Rattle.u_sets.specs.Pairs.{items_of, pairs_of}
use Rattle.u_sets.specs.declared.few.Few.{Few}
use Rattle.u_sets.specs.declared.few.Few.TheVariants.{One}
use Rattle.u_sets.proofs.Hashed.{exactly}
use Rattle.u_sets.proofs.Keyed.{at_key, items_at, alone, one_pair_more, same_pairs}
use Rattle.u_sets.proofs.Putting.{chosen_once, on_err, entry_at, value_at, back_at}
use Rattle.u_sets.proofs.keyed_set.KeyedSet.put.Goals as goal

pub returns-in_default-clause-ok : goal.returns-in_default-clause-ok
returns-in_default-clause-ok g c =
    let E = g.K.PartialEq.eq in
    let x = exactly g.K.PartialEq.eq g.K.Ord.cmp g.met.K.ExactOrd.exact g.met.K.Ord.matches_eq in
    let es = c.self.inside.groups.entries in
    let few : Few g.row.V.Denot = One c.args.value in
    let none : lookup (E c.args.key) es ≡ None = sym c.in_ok-place.ensures.old ∙ c.in_default.is in
    rw (← c.self.view_is) (one_pair_more E g.met.K.Eq.laws x es c.insert_full.new.self.entries c.self.invariant c.in_ok-place.ensures.unique c.args.key c.args.value few c.in_ok-place.ensures.updates.0
    (subst (λ o. IsWith (items_at o) c.args.value (c.args.value ∷ [])) (sym none) (alone c.args.value)))

pub returns-in_default-clause-new : goal.returns-in_default-clause-new
returns-in_default-clause-new g c =
    let E = g.K.PartialEq.eq in
    let x = exactly g.K.PartialEq.eq g.K.Ord.cmp g.met.K.ExactOrd.exact g.met.K.Ord.matches_eq in
    let es = c.self.inside.groups.entries in
    let none : lookup (E c.args.key) es ≡ None = sym c.in_ok-place.ensures.old ∙ c.in_default.is in
    let a = at_key E g.met.K.Eq.laws x es c.self.invariant c.args.key c.args.value in
    rw (← c.self.view_is) ((λ t m. Contains-nil c.args.value (subst (λ o. Contains (items_at o) c.args.value) none (a.0 m))), λ n. refl)

pub unreachable-requires-in_default-replace : goal.unreachable-requires-in_default-replace
unreachable-requires-in_default-replace g c =
    let E = g.K.PartialEq.eq in
    let es = c.self.inside.groups.entries in
    let some : lookup (E c.args.key) es ≡ Some c.in-Some.few = sym c.in_ok-place.ensures.old ∙ c.in-Some.is in
    let few : Few g.row.V.Denot = One c.args.value in
    let v = value_at E c.args.key es c.insert_full.new.self.entries c.in_ok-place.place c.in-Some.few few some c.in_ok-place.ensures.entries c.in_ok-place.ensures.index in
    let t = c.in-Some-get_index_mut.ensures.value in
    let r = c.replace.ensures.value in
    let same : c.replace.result ≡ few = cc in
    c.in_default-replace.not-One c.args.value same

pub invariant_of-self-in_err-added : goal.invariant_of-self-in_err-added
invariant_of-self-in_err-added g c =
    subst (λ ks. IsDistinct g.K.PartialEq.eq ks) (sym (keys-with_value_at c.insert_full.new.self c.in_ok-place.place c.insert.new.self)) c.in_ok-place.ensures.unique

pub returns-in_err-added-clause-err : goal.returns-in_err-added-clause-err
returns-in_err-added-clause-err g c =
    let E = g.K.PartialEq.eq in
    let es = c.self.inside.groups.entries in
    let some : lookup (E c.args.key) es ≡ Some c.in-Some.few = sym c.in_ok-place.ensures.old ∙ c.in-Some.is in
    let few : Few g.row.V.Denot = One c.args.value in
    let d = back_at E c.args.key es c.insert_full.new.self.entries c.in_ok-place.place c.in-Some.few few some c.in_ok-place.ensures.entries c.in_ok-place.ensures.index c.insert.new.self in
    on_err c.from_residual-in_err-added.result _ (rw (← c.self.view_is) (ap (λ ds. pairs_of ds) d ∙ same_pairs (E c.args.key) es c.in-Some.few c.insert.new.self some (c.in_err-added.ensures.err ∙ ap (λ f. items_of f) c.replace.ensures.after)))

pub invariant_of-self-2 : goal.invariant_of-self-2
invariant_of-self-2 g c =
    subst (λ ks. IsDistinct g.K.PartialEq.eq ks) (sym (keys-with_value_at c.insert_full.new.self c.in_ok-place.place c.insert.new.self)) c.in_ok-place.ensures.unique

pub returns-clause-ok : goal.returns-clause-ok
returns-clause-ok g c =
    let E = g.K.PartialEq.eq in
    let x = exactly g.K.PartialEq.eq g.K.Ord.cmp g.met.K.ExactOrd.exact g.met.K.Ord.matches_eq in
    let es = c.self.inside.groups.entries in
    let mid = c.insert_full.new.self in
    let w = c.insert.new.self in
    let few : Few g.row.V.Denot = One c.args.value in
    let some : lookup (E c.args.key) es ≡ Some c.in-Some.few = sym c.in_ok-place.ensures.old ∙ c.in-Some.is in
    let v = value_at E c.args.key es c.insert_full.new.self.entries c.in_ok-place.place c.in-Some.few few some c.in_ok-place.ensures.entries c.in_ok-place.ensures.index in
    let t = c.in-Some-get_index_mut.ensures.value in
    let r = c.replace.ensures.value in
    let i = c.in-One.is in
    let same : c.in-One.value ≡ c.args.value = cc in
    let there = entry_at E c.args.key es c.insert_full.new.self.entries c.in_ok-place.place c.in-Some.few few some c.in_ok-place.ensures.entries c.in_ok-place.ensures.index x in
    let up = updates-with_value_at mid c.in_ok-place.place w g.met.K.Eq.laws c.in_ok-place.ensures.unique c.args.key few there in
    let more = subst (λ o. IsWith (items_at o) c.args.value (items_of w)) (sym some) (subst (λ (y : g.row.V.Denot). IsWith (items_of c.in-Some.few) y (items_of w)) same (subst (λ (f : Few g.row.V.Denot). IsWith (items_of f) c.in-One.value (items_of w)) c.replace.ensures.after c.in_ok-added.ensures.ok)) in
    rw (← c.self.view_is) (one_pair_more E g.met.K.Eq.laws x es (set_value_at mid.entries c.in_ok-place.place w) c.self.invariant
    (subst (λ ks. IsDistinct E ks) (sym (keys-with_value_at mid c.in_ok-place.place w)) c.in_ok-place.ensures.unique)
    c.args.key c.args.value w
    (λ q. up.0 q ∙ ap (λ o. cond (E c.args.key q) (Some w) o) (c.in_ok-place.ensures.updates.0 q) ∙ chosen_once (E c.args.key q) (Some w) (Some few) (lookup (E q) es))
    more)

pub returns-clause-new : goal.returns-clause-new
returns-clause-new g c =
    let E = g.K.PartialEq.eq in
    let x = exactly g.K.PartialEq.eq g.K.Ord.cmp g.met.K.ExactOrd.exact g.met.K.Ord.matches_eq in
    let es = c.self.inside.groups.entries in
    let few : Few g.row.V.Denot = One c.args.value in
    let some : lookup (E c.args.key) es ≡ Some c.in-Some.few = sym c.in_ok-place.ensures.old ∙ c.in-Some.is in
    let v = value_at E c.args.key es c.insert_full.new.self.entries c.in_ok-place.place c.in-Some.few few some c.in_ok-place.ensures.entries c.in_ok-place.ensures.index in
    let t = c.in-Some-get_index_mut.ensures.value in
    let r = c.replace.ensures.value in
    let i = c.in-One.is in
    let same : c.in-One.value ≡ c.args.value = cc in
    let a = at_key E g.met.K.Eq.laws x es c.self.invariant c.args.key c.args.value in
    let b = subst (λ o. Contains (pairs_of es) (c.args.key, c.args.value) ↔ Contains (items_at o) c.args.value) some a in
    let n = subst (λ (y : g.row.V.Denot). IsTrue c.in_ok-added.added ↔ (Contains (items_of c.in-Some.few) y → ⊥)) same (subst (λ (f : Few g.row.V.Denot). IsTrue c.in_ok-added.added ↔ (Contains (items_of f) c.in-One.value → ⊥)) c.replace.ensures.after c.in_ok-added.ensures.new) in
    rw (← c.self.view_is) ((λ t m. n.0 t (b.0 m)), λ k. n.1 (λ m. k (b.1 m)))

pub returns-clause-still : goal.returns-clause-still
returns-clause-still g c n =
    let E = g.K.PartialEq.eq in
    let es = c.self.inside.groups.entries in
    let some : lookup (E c.args.key) es ≡ Some c.in-Some.few = sym c.in_ok-place.ensures.old ∙ c.in-Some.is in
    let few : Few g.row.V.Denot = One c.args.value in
    let d = back_at E c.args.key es c.insert_full.new.self.entries c.in_ok-place.place c.in-Some.few few some c.in_ok-place.ensures.entries c.in_ok-place.ensures.index c.insert.new.self in
    rw (← c.self.view_is) (ap (λ ds. pairs_of ds) d ∙ same_pairs (E c.args.key) es c.in-Some.few c.insert.new.self some (ap (λ f. items_of f) (c.in_ok-added.ensures.still n ∙ c.replace.ensures.after)))
