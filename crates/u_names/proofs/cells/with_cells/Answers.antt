use Rattle.std.proofs.Common.{arith}
use Rattle.u_names.proofs.Celled.{cell_step, cell_end, placed_at}
use Rattle.u_names.proofs.cells.with_cells.Goals as goal

pub cell_of-requires : goal.cell_of-requires
cell_of-requires g c = placed_at c.args.structures.now c.args.pairs.now c.requires c.loop-pair.pair-index c.pair-item.result c.loop-pair-test.true c.pair-item.is

pub loop-pair-preserved : goal.loop-pair-preserved
loop-pair-preserved g c =
    cell_step c.args.structures.now c.args.pairs.now c.loop-pair.pair-index c.pair-item.result c.in_ok-cell_of.field-0 c.loop-pair.list.items c.push.new.self.items c.loop-pair-test.true c.pair-item.is c.in_ok-cell_of.ensures c.in_ok-push.ensures.items c.loop-pair.invariant

pub returns : goal.returns
returns g c = cell_end c.args.structures.now c.args.pairs.now c.loop-pair.pair-index c.loop-pair.list.items (omega arith) c.loop-pair.invariant
