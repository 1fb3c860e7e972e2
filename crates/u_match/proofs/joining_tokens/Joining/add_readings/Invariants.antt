use Rattle.std.proofs.Common.{take, ◌⊎◌, ◌↔◌}
use Rattle.std.specs.Prelude.{Contains}
use Rattle.u_rule.specs.declared.firing.Firing.{Firing}
use Rattle.u_sets.specs.Members.{SomeOf}
use Rattle.u_match.specs.Joins.{IsReading}
use Rattle.u_match.proofs.joining_tokens.Joining.add_readings.Given as goal

abbrev pub invariant-loop-write : goal.invariant-loop-write
invariant-loop-write l = (f : Firing) → Contains l.found.items f ↔ (Contains l.initial.found.items f ⊎ SomeOf (take l.write-index l.writes) (IsReading l.self.job.now l.self.activity.now l.first l.second) f)
