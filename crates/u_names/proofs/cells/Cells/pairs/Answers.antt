use Rattle.std.proofs.Common.{Contains, map, subst, ap, ◌∙◌}
use Rattle.std.specs.Map.Iter.{deref_pair}
use Rattle.u_base.specs.Firing.{Distinct}
use Rattle.u_names.proofs.Celled.{pairs_distinct}
use Rattle.u_names.proofs.Mapped.{if_ok}
use Rattle.u_names.proofs.cells.Cells.pairs.Goals as goal

pub with_cells-requires : goal.with_cells-requires
with_cells-requires g c p m = c.self.invariant.placed p (subst (λ ps. Contains ps p) (ap (λ rs. map deref_pair rs) c.deref.ensures.value ∙ c.in_ok-pairs.ensures.all) m)

pub returns-clause-distinct : goal.returns-clause-distinct
returns-clause-distinct g c =
    if_ok c.with_cells.result _ (λ _. Distinct c.args.self.now) (λ _ _. subst (λ ps. Distinct ps) c.self.view_is
    (pairs_distinct c.self.inside.structures c.self.invariant.structures c.self.inside.pairs c.self.invariant.placed (subst (λ ps. Distinct ps) c.in_ok-pairs.ensures.all c.in_ok-pairs.ensures.distinct)))
    c.with_cells.ensures
