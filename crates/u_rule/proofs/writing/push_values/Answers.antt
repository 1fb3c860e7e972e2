use Rattle.u_rule.proofs.Texts.{values_more}
use Rattle.u_rule.proofs.writing.push_values.Goals as goal

pub loop-value-preserved : goal.loop-value-preserved
loop-value-preserved c = values_more c.args.values.now c.loop-value.value-index c.value-item.result c.args.out.now.items c.loop-value.out.items c.push_value.new.out.items c.loop-value-test.true c.value-item.is c.loop-value.invariant c.in_ok-push_value.ensures.ok
