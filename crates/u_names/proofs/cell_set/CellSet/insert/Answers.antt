use Rattle.std.proofs.Common.{◌↔◌, List, Contains, IsTrue, IfOk, OnOk, ◌∙◌, sym, subst}
use Rattle.u_sets.specs.Members.{IsWith}
use Rattle.u_name.specs.Cell.{CellOf}
use Rattle.u_names.proofs.Alone.{pairs_alone, put_alone}
use Rattle.u_names.proofs.cell_set.CellSet.insert.Goals as goal

pub returns-clause-ok : goal.returns-clause-ok
returns-clause-ok g c =
    subst (λ (ps : List (CellOf × g.row.V.Denot)). OnOk c.insert.result (IsWith c.args.self.now (c.args.cell.now, c.args.value) ps)) (sym (put_alone c.self.inside.cells c.insert.new.self c.self.invariant))
    (subst (λ (ps : List (CellOf × g.row.V.Denot)). OnOk c.insert.result (IsWith ps (c.args.cell.now, c.args.value) c.insert.new.self)) (pairs_alone c.self.inside.cells _ c.self.invariant ∙ c.self.view_is) c.insert.ensures.ok)

pub returns-clause-new : goal.returns-clause-new
returns-clause-new g c =
    subst (λ (ps : List (CellOf × g.row.V.Denot)). IfOk c.insert.result (λ b. IsTrue b ↔ (Contains ps (c.args.cell.now, c.args.value) → ⊥))) (pairs_alone c.self.inside.cells _ c.self.invariant ∙ c.self.view_is) c.insert.ensures.new
