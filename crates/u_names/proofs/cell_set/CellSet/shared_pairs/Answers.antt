use Rattle.std.proofs.Common.{◌↔◌, List, Contains, ◌∙◌, subst, map}
use Rattle.std.specs.Prelude.{IfOk}
use Rattle.u_sets.specs.Pairs.{HasAnother}
use Rattle.u_name.specs.Cell.{CellOf}
use Rattle.u_names.specs.CellPairs.{deref_at_cell}
use Rattle.u_names.proofs.Alone.{pairs_alone}
use Rattle.u_names.proofs.cell_set.CellSet.shared_pairs.Goals as goal

pub returns-clause-all : goal.returns-clause-all
returns-clause-all g c =
    subst (λ (ps : List (CellOf × g.row.V.Denot)). IfOk c.shared_pairs.result (λ v. (k : CellOf) (x : g.row.V.Denot) → Contains (map (deref_at_cell {V = g.row.V.Denot}) v.items) (k, x) ↔ (Contains ps (k, x) × HasAnother {X = g.row.V.Denot} (λ y. Contains ps (k, y)) x)))
    (pairs_alone c.self.inside.cells c.index-self-0.result c.self.told ∙ c.self.view_is) c.shared_pairs.ensures.all
