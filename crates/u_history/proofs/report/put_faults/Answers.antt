use Rattle.u_history.specs.Report.{fault_line}
use Rattle.u_history.proofs.Texts.{texts_more}
use Rattle.u_history.proofs.report.put_faults.Goals as goal

pub loop-fault-preserved : goal.loop-fault-preserved
loop-fault-preserved c =
    texts_more fault_line c.args.faults.now c.loop-fault.fault-index c.fault-item.result c.args.out.now.items c.loop-fault.out.items c.put_fault.new.out.items c.loop-fault-test.true c.fault-item.is c.loop-fault.invariant c.in_ok-put_fault.ensures
