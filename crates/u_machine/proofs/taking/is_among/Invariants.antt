use Rattle.std.proofs.Common.{◌≡◌, take}
use Rattle.std.specs.Prelude.{Contains}
use Rattle.u_rule.specs.declared.firing.Firing.{Firing}
use Rattle.u_machine.proofs.taking.is_among.Given as goal

abbrev pub invariant-loop-other : goal.invariant-loop-other
invariant-loop-other l = (f : Firing) → Contains (take l.other-index l.firings) f → f ≡ l.firing → ⊥
