use Rattle.u_history.specs.Report.{port_line}
use Rattle.u_history.proofs.Texts.{texts_more}
use Rattle.u_history.proofs.report.put_values.Goals as goal

pub loop-value-preserved : goal.loop-value-preserved
loop-value-preserved c =
    texts_more (port_line c.args.activity.now c.args.port) c.args.values.now c.loop-value.value-index c.value-item.result c.args.out.now.items c.loop-value.out.items c.put_value.new.out.items c.loop-value-test.true c.value-item.is c.loop-value.invariant c.in_ok-put_value.ensures
