use Rattle.std.proofs.Common.{◌≡◌, ◌↔◌, ◌⊎◌, ◌≤◌, take, Contains, []}
use Rattle.u_sets.specs.Rising.{Rises}
use Rattle.u_sets.specs.Members.{SomeOf}
use Rattle.u_value.specs.declared.value.Value.{Value}
use Rattle.u_rule.specs.Parts.{token}
use Rattle.u_rule.specs.declared.entry.Entry.{Entry}
use Rattle.u_rule.specs.declared.entry.Entry.TheVariants as kinds
use Rattle.u_history.specs.Orders.{value_order}
use Rattle.u_history.specs.Outcomes.{lent}
use Rattle.u_history.proofs.lookup.values_at.Given as goal

abbrev pub invariant-loop-index : goal.invariant-loop-index
invariant-loop-index l = record {
  from : l.initial.index ≤ l.index;
  rises : Rises value_order l.list.items;
  all : (y : Value) → Contains l.list.items y ↔ (Contains [] y ⊎ SomeOf (take l.index (lent l.entries)) (λ (e : Entry) (x : Value). e ≡ kinds.Token (token l.activity l.port x)) y);
}
