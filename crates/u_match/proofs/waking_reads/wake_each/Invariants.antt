use Rattle.std.proofs.Common.{take, ◌⊎◌, ◌↔◌, []}
use Rattle.std.specs.Prelude.{Contains}
use Rattle.u_rule.specs.declared.firing.Firing.{Firing}
use Rattle.u_sets.specs.Members.{SomeOf}
use Rattle.u_match.specs.Joins.{IsWoken}
use Rattle.u_match.proofs.waking_reads.wake_each.Given as goal

abbrev pub invariant-loop-read : goal.invariant-loop-read
invariant-loop-read l = (f : Firing) → Contains l.found.items f ↔ (Contains [] f ⊎ SomeOf (take l.read-index l.reads) (IsWoken l.write) f)
