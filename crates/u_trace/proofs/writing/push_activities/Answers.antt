use Rattle.u_trace.specs.Text.{waiting_text}
use Rattle.u_trace.proofs.Texts.{lines_more}
use Rattle.u_trace.proofs.writing.push_activities.Goals as goal

pub loop-item-preserved : goal.loop-item-preserved
loop-item-preserved c = lines_more waiting_text c.args.waiting.now c.loop-item.item-index c.item-item.result c.args.out.now.items c.loop-item.out.items c.push_waiting.new.out.items c.push.new.self.items c.loop-item-test.true c.item-item.is c.loop-item.invariant c.in_ok-push_waiting.ensures.ok c.in_ok-push.ensures.items
