use Rattle.std.proofs.Common.{◌≡◌, ◌↔◌, ◌∙◌, ℕ, map, sym, subst, ap, List, Contains}
use Rattle.u_base.specs.Firing.{Distinct}
use Rattle.std.specs.Prelude.{nat_eq}
use Rattle.std.specs.Cmp.{nat_eq_equiv}
use Rattle.std.proofs.lemmas.Bool.{eqb-true}
use Rattle.u_sets.specs.Pairs.{pairs_of_many, GroupsAreDistinct, HasAnother}
use Rattle.u_sets.specs.Columns.{numbered_from, numbered_pairs, deref_value}
use Rattle.u_sets.proofs.Keyed.{ok_then, shared, many_distinct}
use Rattle.u_sets.proofs.Columned.{numbers_distinct}
use Rattle.u_sets.proofs.column.Column.shared_pairs.Goals as goal

pub returns-clause-all : goal.returns-clause-all
returns-clause-all g c =
    let fs = c.deref.result.now in
    let is = ap numbered_pairs c.deref.ensures.value ∙ c.self.view_is in
    rw (← is)
    (ok_then c.gather.result (λ v. map deref_value v.items ≡ pairs_of_many 2 (numbered_from 0 fs)) (λ _. GroupsAreDistinct (numbered_from 0 fs))
    (λ v. (n : ℕ) (y : g.row.V.Denot) → Contains (map deref_value v.items) (n, y) ↔ (Contains (numbered_pairs fs) (n, y) × HasAnother (λ z. Contains (numbered_pairs fs) (n, z)) y)) c.gather.ensures.all c.gather.ensures.apart
    (λ v a d n y. subst (λ (ps : List _). Contains ps (n, y) ↔ (Contains (numbered_pairs fs) (n, y) × HasAnother (λ z. Contains (numbered_pairs fs) (n, z)) y)) (sym a) (shared nat_eq nat_eq_equiv eqb-true (numbered_from 0 fs) (numbers_distinct 0 fs) d n y)))

pub returns-clause-distinct : goal.returns-clause-distinct
returns-clause-distinct g c =
    let fs = c.deref.result.now in
    ok_then c.gather.result (λ v. map deref_value v.items ≡ pairs_of_many 2 (numbered_from 0 fs)) (λ _. GroupsAreDistinct (numbered_from 0 fs)) (λ v. Distinct (map deref_value v.items)) c.gather.ensures.all c.gather.ensures.apart
    (λ v a d. subst (λ (ps : List _). Distinct ps) (sym a) (many_distinct nat_eq nat_eq_equiv eqb-true 2 (numbered_from 0 fs) (numbers_distinct 0 fs) d))
