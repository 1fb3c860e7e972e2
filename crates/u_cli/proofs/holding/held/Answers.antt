use Rattle.std.proofs.Common.{List, ◌∙◌}
use Rattle.u_base.specs.Firing.{Held}
use Rattle.u_rule.specs.EntryOrder.{entry_cmp}
use Rattle.u_rule.specs.Rule.{own_of}
use Rattle.u_rule.specs.declared.entry.Entry.{Entry}
use Rattle.u_cli.proofs.HeldLaws.{start_held, more_held, all_held, listed}
use Rattle.u_cli.proofs.holding.held.Goals as goal

pub loop-firing-init : goal.loop-firing-init
loop-firing-init c = start_held (own_of c.args.job.now) c.args.firings.now c.new-history.result c.put.new.history c.new-history.ensures (rw c.start.ensures.start at c.in_ok-put.ensures)

pub loop-firing-preserved : goal.loop-firing-preserved
loop-firing-preserved c =
    more_held (own_of c.args.job.now) c.args.firings.now c.loop-firing.firing-index c.firing-item.result c.loop-firing.history c.put_given.new.history
    c.loop-firing-test.true c.firing-item.is c.in_ok-put_given.ensures c.loop-firing.invariant

pub returns : goal.returns
returns c =
    listed (λ v. v.items) entry_cmp (Held (own_of c.args.job.now) c.args.firings.now) c.loop-firing.history c.entries.result c.entries.ensures.all c.entries.ensures.rises
    (all_held (own_of c.args.job.now) c.args.firings.now c.loop-firing.firing-index c.loop-firing.history c.loop-firing-test.false c.loop-firing.invariant)
