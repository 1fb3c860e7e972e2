use Rattle.std.proofs.Common.{◌↔◌, Contains, map, subst, sym}
use Rattle.std.specs.Map.Iter.{deref_pair}
use Rattle.u_base.specs.Firing.{Distinct}
use Rattle.u_sets.specs.Pairs.{HasAnother}
use Rattle.u_names.proofs.Celled.{pairs_distinct, shared_list}
use Rattle.u_names.proofs.Mapped.{if_ok}
use Rattle.u_names.proofs.cells.Cells.shared_pairs.Goals as goal

pub with_cells-requires : goal.with_cells-requires
with_cells-requires g c p m =
    c.self.invariant.placed p ((c.in_ok-pairs.ensures.all p.0 p.1).0 (subst (λ rs. Contains (map deref_pair rs) p) c.deref.ensures.value m)).0

pub returns-clause-all : goal.returns-clause-all
returns-clause-all g c =
    if_ok c.with_cells.result _ _ (λ v e. shared_list c.self.inside.structures c.self.invariant.structures c.self.inside.pairs c.self.invariant.placed (map deref_pair c.deref.result.now) _ c.args.self.now
    (λ s y. subst (λ rs. Contains (map deref_pair rs) (s, y) ↔ (Contains c.self.inside.pairs (s, y) × HasAnother (λ z. Contains c.self.inside.pairs (s, z)) y)) (sym c.deref.ensures.value) (c.in_ok-pairs.ensures.all s y))
    e c.self.view_is)
    c.with_cells.ensures

pub returns-clause-distinct : goal.returns-clause-distinct
returns-clause-distinct g c =
    if_ok c.with_cells.result _ _ (λ v e. subst (λ rs. Distinct rs) (sym e)
    (pairs_distinct c.self.inside.structures c.self.invariant.structures (map deref_pair c.deref.result.now)
    (λ p m. c.self.invariant.placed p ((c.in_ok-pairs.ensures.all p.0 p.1).0 (subst (λ rs. Contains (map deref_pair rs) p) c.deref.ensures.value m)).0)
    (subst (λ rs. Distinct (map deref_pair rs)) (sym c.deref.ensures.value) c.in_ok-pairs.ensures.distinct)))
    c.with_cells.ensures
