use Rattle.std.proofs.Common.{take, ◌⊎◌, ◌↔◌, [], Contains}
use Rattle.u_rule.specs.declared.firing.Firing.{Firing}
use Rattle.u_sets.specs.Members.{SomeOf}
use Rattle.u_plain.specs.Tries.{FitsFirst}
use Rattle.u_plain.proofs.enabling.enabled.Given as goal

abbrev pub invariant-loop-left : goal.invariant-loop-left
invariant-loop-left l = (f : Firing) → Contains l.found.items f ↔ (Contains {X = Firing} [] f ⊎ SomeOf (take l.left-index l.held) (FitsFirst l.job l.held) f)
