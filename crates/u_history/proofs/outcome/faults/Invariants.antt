use Rattle.std.proofs.Common.{◌≡◌, ◌↔◌, ◌⊎◌, take, Contains, []}
use Rattle.u_sets.specs.Rising.{Rises}
use Rattle.u_sets.specs.Members.{SomeOf}
use Rattle.u_rule.specs.declared.parts.Fault.{Fault}
use Rattle.u_rule.specs.declared.entry.Entry.{Entry}
use Rattle.u_rule.specs.declared.entry.Entry.TheVariants as kinds
use Rattle.u_history.specs.Orders.{fault_order}
use Rattle.u_history.specs.Outcomes.{lent}
use Rattle.u_history.proofs.outcome.faults.Given as goal

abbrev pub invariant-loop-index : goal.invariant-loop-index
invariant-loop-index l = record {
  rises : Rises fault_order l.list.items;
  all : (y : Fault) → Contains l.list.items y ↔ (Contains [] y ⊎ SomeOf (take l.index (lent l.entries)) (λ (e : Entry) (x : Fault). e ≡ kinds.Fault x) y);
}
