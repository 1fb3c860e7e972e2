use Rattle.std.proofs.Common.{arith}
use Rattle.std.specs.Map.Iter.{deref}
use Rattle.u_history.proofs.Tabled.{single_more, single_all}
use Rattle.u_history.proofs.tables.push_others.Goals as goal

pub loop-entry-preserved : goal.loop-entry-preserved
loop-entry-preserved c =
    single_more deref c.args.others.now c.loop-entry.entry-index c.entry-item.result c.in_ok-copy.field-0 c.loop-entry.list.items c.push.new.self.items c.args.list.now.items c.loop-entry-test.true c.entry-item.is c.in_ok-push.ensures.items c.in_ok-copy.ensures c.loop-entry.invariant

pub returns : goal.returns
returns c = single_all deref c.args.others.now c.loop-entry.entry-index c.loop-entry.list.items c.args.list.now.items (omega arith) c.loop-entry.invariant
