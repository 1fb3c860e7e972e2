use Rattle.std.proofs.Common.{◌≡◌, ◌∙◌, map, subst, ap, List}
use Rattle.u_base.specs.Firing.{Distinct}
use Rattle.std.specs.Prelude.{nat_eq}
use Rattle.std.specs.Cmp.{nat_eq_equiv}
use Rattle.std.proofs.lemmas.Bool.{eqb-true}
use Rattle.u_sets.specs.Pairs.{pairs_of_many, GroupsAreDistinct}
use Rattle.u_sets.specs.Columns.{numbered_from, numbered_pairs, deref_value}
use Rattle.u_sets.proofs.Keyed.{ok_then, all_of_many, many_distinct}
use Rattle.u_sets.proofs.Columned.{numbers_distinct}
use Rattle.u_sets.proofs.column.Column.pairs.Goals as goal

pub returns-clause-all : goal.returns-clause-all
returns-clause-all g c =
    let fs = c.deref.result.now in
    let is = ap numbered_pairs c.deref.ensures.value ∙ c.self.view_is in
    ok_then c.gather.result (λ v. map deref_value v.items ≡ pairs_of_many 0 (numbered_from 0 fs)) (λ _. GroupsAreDistinct (numbered_from 0 fs)) (λ v. map deref_value v.items ≡ c.args.self.now) c.gather.ensures.all c.gather.ensures.apart
    (λ v a d. a ∙ all_of_many (numbered_from 0 fs) ∙ is)

pub returns-clause-distinct : goal.returns-clause-distinct
returns-clause-distinct g c =
    let fs = c.deref.result.now in
    let is = all_of_many (numbered_from 0 fs) ∙ ap numbered_pairs c.deref.ensures.value ∙ c.self.view_is in
    ok_then c.gather.result (λ v. map deref_value v.items ≡ pairs_of_many 0 (numbered_from 0 fs)) (λ _. GroupsAreDistinct (numbered_from 0 fs)) (λ _. Distinct c.args.self.now) c.gather.ensures.all c.gather.ensures.apart
    (λ v a d. subst (λ (ps : List _). Distinct ps) is (many_distinct nat_eq nat_eq_equiv eqb-true 0 (numbered_from 0 fs) (numbers_distinct 0 fs) d))
