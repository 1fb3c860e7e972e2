use Rattle.std.proofs.Common.{take, ◌⊎◌, ◌↔◌, Contains}
use Rattle.u_rule.specs.declared.firing.Firing.{Firing}
use Rattle.u_sets.specs.Members.{SomeOf}
use Rattle.u_plain.specs.Tries.{FitsRead}
use Rattle.u_plain.proofs.enabling.add_reads.Given as goal

abbrev pub invariant-loop-entry : goal.invariant-loop-entry
invariant-loop-entry l = (f : Firing) → Contains l.found.items f ↔ (Contains l.fn.found.items f ⊎ SomeOf (take l.entry-index l.held) (FitsRead l.job l.held l.made) f)
