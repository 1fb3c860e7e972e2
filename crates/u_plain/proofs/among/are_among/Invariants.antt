use Rattle.std.proofs.Common.{take, Contains}
use Rattle.u_rule.specs.declared.firing.Firing.{Firing}
use Rattle.u_plain.proofs.among.are_among.Given as goal

abbrev pub invariant-loop-firing : goal.invariant-loop-firing
invariant-loop-firing l = (f : Firing) → Contains (take l.firing-index l.firings) f → Contains l.list f
