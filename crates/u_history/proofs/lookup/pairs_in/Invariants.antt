use Rattle.std.proofs.Common.{◌≡◌, ◌↔◌, ◌⊎◌, ◌≤◌, take, Contains, []}
use Rattle.u_sets.specs.Rising.{Rises}
use Rattle.u_sets.specs.Members.{SomeOf}
use Rattle.u_rule.specs.declared.parts.Written.{Written}
use Rattle.u_rule.specs.EntryOrder.{write_of}
use Rattle.u_rule.specs.declared.entry.Entry.{Entry}
use Rattle.u_rule.specs.declared.entry.Entry.TheVariants as kinds
use Rattle.u_history.specs.Orders.{written_order}
use Rattle.u_history.specs.Outcomes.{lent}
use Rattle.u_history.proofs.lookup.pairs_in.Given as goal

abbrev pub invariant-loop-index : goal.invariant-loop-index
invariant-loop-index l = record {
  from : l.initial.index ≤ l.index;
  rises : Rises written_order l.list.items;
  all : (y : Written) → Contains l.list.items y ↔ (Contains [] y ⊎ SomeOf (take l.index (lent l.entries)) (λ (e : Entry) (x : Written). e ≡ kinds.Write (write_of l.cell x.writer x.value)) y);
}
