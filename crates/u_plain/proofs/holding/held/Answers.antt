use Rattle.std.proofs.Common.{◌∙◌}
use Rattle.u_rule.specs.Rule.{own_of}
use Rattle.u_plain.proofs.Lists.{held_more, held_all}
use Rattle.u_plain.proofs.holding.held.Goals as goal

pub loop-firing-preserved : goal.loop-firing-preserved
loop-firing-preserved c =
    held_more (own_of c.args.job.now) c.args.firings.now c.loop-firing.firing-index c.firing-item.result c.loop-firing.all.items c.deref.result.now c.add_all.new.all.items c.loop-firing-test.true c.firing-item.is
    (c.deref.ensures.value ∙ c.in_ok-given.ensures) c.in_ok-add_all.ensures c.loop-firing.invariant

pub returns : goal.returns
returns c = held_all (own_of c.args.job.now) c.args.firings.now c.loop-firing.firing-index c.loop-firing.all.items c.loop-firing-test.false c.loop-firing.invariant
