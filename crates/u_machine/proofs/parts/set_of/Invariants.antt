use Rattle.std.proofs.Common.{take, ◌↔◌}
use Rattle.std.specs.Prelude.{Contains}
use Rattle.u_rule.specs.declared.firing.Firing.{Firing}
use Rattle.u_machine.proofs.parts.set_of.Given as goal

abbrev pub invariant-loop-firing : goal.invariant-loop-firing
invariant-loop-firing l = (f : Firing) → Contains l.set f ↔ Contains (take l.firing-index l.firings) f
