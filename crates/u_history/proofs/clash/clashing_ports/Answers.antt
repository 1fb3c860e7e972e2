use Rattle.std.proofs.Common.{[], Contains, arith}
use Rattle.u_sets.proofs.Gathering.{scan_more, scan_all}
use Rattle.u_history.specs.declared.clash.Port.{Port}
use Rattle.u_history.specs.Clashes.{port_order}
use Rattle.u_rule.specs.declared.entry.Entry.{Entry}
use Rattle.u_history.specs.Outcomes.{lent, HasTwo, ValueAt}
use Rattle.u_history.specs.Places.{IsClashing, IsTokenAt}
use Rattle.u_history.proofs.Gathered.{lent_below, lent_end}
use Rattle.u_history.proofs.Clashing.{step_place, listed_places, port_of_clash, clash_of_port}
use Rattle.u_history.proofs.clash.clashing_ports.Goals as goal

pub loop-index-preserved : goal.loop-index-preserved
loop-index-preserved c = record {
  rises = c.in_ok-add_port.ensures.rises;
  all = scan_more (λ (e : Entry) (x : Port). IsClashing (Contains (lent c.args.entries.now)) e × IsTokenAt x.activity x.number e) [] (lent c.args.entries.now) c.loop-index.index c.entry_at.result.now c.loop-index.list.items c.add_port.new.list.items (lent_below c.args.entries.now c.loop-index.index (omega arith)) c.loop-index.invariant.all (step_place (λ (p : Port). IsTokenAt p.activity p.number) (lent c.args.entries.now) c.entry_at.result.now _ c.loop-index.list.items c.add_port.new.list.items c.is_clashing-clashing.result (c.entry_at.ensures c.entry_at.result.now) (c.is_clashing-clashing.ensures c.entry_at.result.now) c.in_ok-add_port.ensures.ok);
}

pub returns : goal.returns
returns c =
    listed_places (λ (p : Port). IsTokenAt p.activity p.number) (lent c.args.entries.now) port_order (λ (p : Port). HasTwo (ValueAt (Contains (lent c.args.entries.now)) p.activity p.number)) (port_of_clash (Contains (lent c.args.entries.now))) (clash_of_port (Contains (lent c.args.entries.now))) c.loop-index.list.items c.loop-index.invariant.rises (scan_all (λ (e : Entry) (x : Port). IsClashing (Contains (lent c.args.entries.now)) e × IsTokenAt x.activity x.number e) [] (lent c.args.entries.now) c.loop-index.index c.loop-index.list.items (lent_end c.args.entries.now c.loop-index.index (omega arith)) c.loop-index.invariant.all)
