use Rattle.std.proofs.Common.{◌↔◌, ◌⊎◌, take, Contains, []}
use Rattle.u_sets.specs.Rising.{Rises}
use Rattle.u_sets.specs.Members.{SomeOf}
use Rattle.u_name.specs.Cell.{CellOf, cell_cmp}
use Rattle.u_rule.specs.declared.entry.Entry.{Entry}
use Rattle.u_history.specs.Outcomes.{lent}
use Rattle.u_history.specs.Places.{IsClashing, IsWriteOf}
use Rattle.u_history.proofs.clash.clashing_cells.Given as goal

abbrev pub invariant-loop-index : goal.invariant-loop-index
invariant-loop-index l = record {
  rises : Rises cell_cmp l.list.items;
  all : (y : CellOf) → Contains l.list.items y ↔ (Contains [] y ⊎ SomeOf (take l.index (lent l.entries)) (λ (e : Entry) (x : CellOf). IsClashing (Contains (lent l.entries)) e × IsWriteOf x e) y);
}
