use Rattle.std.proofs.Common.{arith}
use Rattle.u_names.specs.CellPairs.{deref_at_cell}
use Rattle.u_history.specs.Tables.{write_entry}
use Rattle.u_history.proofs.Tabled.{mapped_more, mapped_all}
use Rattle.u_history.proofs.tables.push_writes.Goals as goal

pub loop-pair-preserved : goal.loop-pair-preserved
loop-pair-preserved c =
    mapped_more write_entry deref_at_cell c.args.pairs.now c.loop-pair.pair-index c.pair-item.result c.in_ok-write_copy.field-0 c.loop-pair.list.items c.push.new.self.items c.args.list.now.items c.loop-pair-test.true c.pair-item.is c.in_ok-push.ensures.items c.in_ok-write_copy.ensures c.loop-pair.invariant

pub returns : goal.returns
returns c = mapped_all write_entry deref_at_cell c.args.pairs.now c.loop-pair.pair-index c.loop-pair.list.items c.args.list.now.items (omega arith) c.loop-pair.invariant
