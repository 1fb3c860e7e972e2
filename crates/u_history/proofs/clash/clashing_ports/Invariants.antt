use Rattle.std.proofs.Common.{◌↔◌, ◌⊎◌, take, Contains, []}
use Rattle.u_sets.specs.Rising.{Rises}
use Rattle.u_sets.specs.Members.{SomeOf}
use Rattle.u_history.specs.declared.clash.Port.{Port}
use Rattle.u_history.specs.Clashes.{port_order}
use Rattle.u_rule.specs.declared.entry.Entry.{Entry}
use Rattle.u_history.specs.Outcomes.{lent}
use Rattle.u_history.specs.Places.{IsClashing, IsTokenAt}
use Rattle.u_history.proofs.clash.clashing_ports.Given as goal

abbrev pub invariant-loop-index : goal.invariant-loop-index
invariant-loop-index l = record {
  rises : Rises port_order l.list.items;
  all : (y : Port) → Contains l.list.items y ↔ (Contains [] y ⊎ SomeOf (take l.index (lent l.entries)) (λ (e : Entry) (x : Port). IsClashing (Contains (lent l.entries)) e × IsTokenAt x.activity x.number e) y);
}
