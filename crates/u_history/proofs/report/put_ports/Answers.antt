use Rattle.u_history.specs.declared.clash.PortClash.{PortClash}
use Rattle.u_history.specs.Clashes.{port_values}
use Rattle.u_history.specs.Report.{port_lines}
use Rattle.u_history.proofs.Texts.{texts_more, texts_of}
use Rattle.u_history.proofs.report.put_ports.Goals as goal

pub loop-clash-preserved : goal.loop-clash-preserved
loop-clash-preserved c =
    texts_more (λ (k : PortClash). port_lines (port_values k)) c.args.clashes.now c.loop-clash.clash-index c.clash-item.result c.args.out.now.items c.loop-clash.out.items c.put_port.new.out.items c.loop-clash-test.true c.clash-item.is c.loop-clash.invariant c.in_ok-put_port.ensures

pub returns : goal.returns
returns c = texts_of port_lines port_values c.args.clashes.now c.loop-clash.clash-index c.args.out.now.items c.loop-clash.out.items c.loop-clash-test.false c.loop-clash.invariant
