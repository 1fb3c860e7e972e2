use Rattle.std.proofs.Common.{take, ◌⊎◌, ◌↔◌}
use Rattle.std.specs.Prelude.{Contains}
use Rattle.u_rule.specs.declared.firing.Firing.{Firing}
use Rattle.u_sets.specs.Members.{SomeOf}
use Rattle.u_match.specs.Joins.{JoinsSome}
use Rattle.u_match.proofs.joining_tokens.Joining.add_twos.Given as goal

abbrev pub invariant-loop-first : goal.invariant-loop-first
invariant-loop-first l = (f : Firing) → Contains l.found.items f ↔ (Contains l.initial.found.items f ⊎ SomeOf (take l.first-index l.firsts) (JoinsSome l.self.job.now (Contains l.self.history.now.entries) l.self.activity.now l.seconds) f)
