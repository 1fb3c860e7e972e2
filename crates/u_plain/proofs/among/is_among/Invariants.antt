use Rattle.std.proofs.Common.{◌≡◌, take, Contains}
use Rattle.u_rule.specs.declared.firing.Firing.{Firing}
use Rattle.u_plain.proofs.among.is_among.Given as goal

abbrev pub invariant-loop-other : goal.invariant-loop-other
invariant-loop-other l = (x : Firing) → Contains (take l.other-index l.list) x → (x ≡ l.firing) → ⊥
