use Rattle.std.proofs.Common.{◌-◌, length, take, ◌⊎◌, ◌↔◌, Contains}
use Rattle.u_rule.specs.Parts.{most_ports}
use Rattle.u_rule.specs.declared.firing.Firing.{Firing}
use Rattle.u_sets.specs.Members.{SomeOf}
use Rattle.u_plain.specs.Tries.{FitsLonger}
use Rattle.u_plain.proofs.enabling.+grow.Given as goal

abbrev pub decreases-grow : goal.decreases-grow
decreases-grow l = most_ports - length l.made.now.values

abbrev pub invariant-loop-entry : goal.invariant-loop-entry
invariant-loop-entry l = (f : Firing) → Contains l.found.items f ↔ (Contains l.initial.found.items f ⊎ SomeOf (take l.entry-index l.held) (FitsLonger l.job l.held l.made) f)
