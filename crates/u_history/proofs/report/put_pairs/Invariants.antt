use Rattle.std.proofs.Common.{◌≡◌, ◌++◌, take}
use Rattle.u_history.specs.Report.{texts, cell_line}
use Rattle.u_history.proofs.report.put_pairs.Given as goal

abbrev pub invariant-loop-pair : goal.invariant-loop-pair
invariant-loop-pair l = l.out.items ≡ l.initial.out.items ++ texts (cell_line l.cell) (take l.pair-index l.pairs)
