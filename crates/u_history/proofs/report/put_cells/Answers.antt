use Rattle.u_history.specs.declared.clash.CellClash.{CellClash}
use Rattle.u_history.specs.Clashes.{cell_pairs}
use Rattle.u_history.specs.Report.{cell_lines}
use Rattle.u_history.proofs.Texts.{texts_more, texts_of}
use Rattle.u_history.proofs.report.put_cells.Goals as goal

pub loop-clash-preserved : goal.loop-clash-preserved
loop-clash-preserved c =
    texts_more (λ (k : CellClash). cell_lines (cell_pairs k)) c.args.clashes.now c.loop-clash.clash-index c.clash-item.result c.args.out.now.items c.loop-clash.out.items c.put_cell.new.out.items c.loop-clash-test.true c.clash-item.is c.loop-clash.invariant c.in_ok-put_cell.ensures

pub returns : goal.returns
returns c = texts_of cell_lines cell_pairs c.args.clashes.now c.loop-clash.clash-index c.args.out.now.items c.loop-clash.out.items c.loop-clash-test.false c.loop-clash.invariant
