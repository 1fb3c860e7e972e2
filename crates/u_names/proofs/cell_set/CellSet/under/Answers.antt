use Rattle.std.proofs.Common.{◌↔◌, List, Contains, ◌∙◌, subst}
use Rattle.u_name.specs.Cell.{CellOf}
use Rattle.u_names.proofs.Alone.{pairs_alone}
use Rattle.u_names.proofs.cell_set.CellSet.under.Goals as goal

pub returns-clause-all : goal.returns-clause-all
returns-clause-all g c = λ v.
    subst (λ (ps : List (CellOf × g.row.V.Denot)). Contains c.under.result.now v ↔ Contains ps (c.args.cell.now, v)) (pairs_alone c.self.inside.cells c.index-self-0.result c.self.told ∙ c.self.view_is) (c.under.ensures.all v)
