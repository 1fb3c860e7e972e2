use Rattle.u_history.specs.Report.{cell_line}
use Rattle.u_history.proofs.Texts.{texts_more}
use Rattle.u_history.proofs.report.put_pairs.Goals as goal

pub loop-pair-preserved : goal.loop-pair-preserved
loop-pair-preserved c =
    texts_more (cell_line c.args.cell.now) c.args.pairs.now c.loop-pair.pair-index c.pair-item.result c.args.out.now.items c.loop-pair.out.items c.put_pair.new.out.items c.loop-pair-test.true c.pair-item.is c.loop-pair.invariant c.in_ok-put_pair.ensures
