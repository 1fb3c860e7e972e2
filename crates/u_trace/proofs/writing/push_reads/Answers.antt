use Rattle.u_trace.specs.Text.{read_text}
use Rattle.u_trace.proofs.Texts.{lines_more}
use Rattle.u_trace.proofs.writing.push_reads.Goals as goal

pub loop-read-preserved : goal.loop-read-preserved
loop-read-preserved c = lines_more read_text c.args.reads.now c.loop-read.read-index c.read-item.result c.args.out.now.items c.loop-read.out.items c.push_read.new.out.items c.push.new.self.items c.loop-read-test.true c.read-item.is c.loop-read.invariant c.in_ok-push_read.ensures.ok c.in_ok-push.ensures.items
