use Rattle.std.proofs.Common.{List}
use Rattle.u_rule.specs.declared.entry.Entry.{Entry}
use Rattle.u_cli.proofs.HeldLaws.{one_put, all_put}
use Rattle.u_cli.proofs.holding.put_all.Goals as goal

pub loop-entry-preserved : goal.loop-entry-preserved
loop-entry-preserved c =
    one_put c.args.history.now c.loop-entry.history c.put.new.history c.args.entries.now c.loop-entry.entry-index c.entry-item.result
    c.loop-entry-test.true c.entry-item.is (rw c.in_ok-copy.ensures at c.in_ok-put.ensures) c.loop-entry.invariant

pub returns : goal.returns
returns c = all_put c.args.history.now c.loop-entry.history c.args.entries.now c.loop-entry.entry-index c.loop-entry-test.false c.loop-entry.invariant
