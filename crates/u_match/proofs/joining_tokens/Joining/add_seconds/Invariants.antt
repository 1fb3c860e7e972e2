use Rattle.std.proofs.Common.{take, ◌⊎◌, ◌↔◌}
use Rattle.std.specs.Prelude.{Contains}
use Rattle.u_rule.specs.declared.firing.Firing.{Firing}
use Rattle.u_sets.specs.Members.{SomeOf}
use Rattle.u_match.specs.Joins.{JoinsTwo}
use Rattle.u_match.proofs.joining_tokens.Joining.add_seconds.Given as goal

abbrev pub invariant-loop-second : goal.invariant-loop-second
invariant-loop-second l = (f : Firing) → Contains l.found.items f ↔ (Contains l.initial.found.items f ⊎ SomeOf (take l.second-index l.seconds) (JoinsTwo l.self.job.now (Contains l.self.history.now.entries) l.self.activity.now l.first) f)
