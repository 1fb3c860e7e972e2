use Rattle.std.proofs.Common.{◌≡◌, ◌++◌, take}
use Rattle.u_history.specs.declared.clash.CellClash.{CellClash}
use Rattle.u_history.specs.Clashes.{cell_pairs}
use Rattle.u_history.specs.Report.{texts, cell_lines}
use Rattle.u_history.proofs.report.put_cells.Given as goal

abbrev pub invariant-loop-clash : goal.invariant-loop-clash
invariant-loop-clash l = l.out.items ≡ l.initial.out.items ++ texts (λ (k : CellClash). cell_lines (cell_pairs k)) (take l.clash-index l.clashes)
