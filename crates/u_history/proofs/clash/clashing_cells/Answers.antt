use Rattle.std.proofs.Common.{[], Contains, arith}
use Rattle.u_sets.proofs.Gathering.{scan_more, scan_all}
use Rattle.u_name.specs.Cell.{CellOf, cell_cmp}
use Rattle.u_rule.specs.declared.entry.Entry.{Entry}
use Rattle.u_history.specs.Outcomes.{lent, HasTwo, PairIn}
use Rattle.u_history.specs.Places.{IsClashing, IsWriteOf}
use Rattle.u_history.proofs.Gathered.{lent_below, lent_end}
use Rattle.u_history.proofs.Clashing.{step_place, listed_places, cell_of_clash, clash_of_cell}
use Rattle.u_history.proofs.clash.clashing_cells.Goals as goal

pub loop-index-preserved : goal.loop-index-preserved
loop-index-preserved c = record {
  rises = c.in_ok-add_cell.ensures.rises;
  all = scan_more (λ (e : Entry) (x : CellOf). IsClashing (Contains (lent c.args.entries.now)) e × IsWriteOf x e) [] (lent c.args.entries.now) c.loop-index.index c.entry_at.result.now c.loop-index.list.items c.add_cell.new.list.items (lent_below c.args.entries.now c.loop-index.index (omega arith)) c.loop-index.invariant.all (step_place IsWriteOf (lent c.args.entries.now) c.entry_at.result.now _ c.loop-index.list.items c.add_cell.new.list.items c.is_clashing-clashing.result (c.entry_at.ensures c.entry_at.result.now) (c.is_clashing-clashing.ensures c.entry_at.result.now) c.in_ok-add_cell.ensures.ok);
}

pub returns : goal.returns
returns c =
    listed_places IsWriteOf (lent c.args.entries.now) cell_cmp (λ (x : CellOf). HasTwo (PairIn (Contains (lent c.args.entries.now)) x)) (cell_of_clash (Contains (lent c.args.entries.now))) (clash_of_cell (Contains (lent c.args.entries.now))) c.loop-index.list.items c.loop-index.invariant.rises (scan_all (λ (e : Entry) (x : CellOf). IsClashing (Contains (lent c.args.entries.now)) e × IsWriteOf x e) [] (lent c.args.entries.now) c.loop-index.index c.loop-index.list.items (lent_end c.args.entries.now c.loop-index.index (omega arith)) c.loop-index.invariant.all)
