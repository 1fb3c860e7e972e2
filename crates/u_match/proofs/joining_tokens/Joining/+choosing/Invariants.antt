use Rattle.std.proofs.Common.{◌≡◌, ◌↔◌, ◌⊎◌, ◌+◌, [], ◌∷◌, ◌++◌, length, take}
use Rattle.std.specs.Prelude.{Contains}
use Rattle.u_value.specs.declared.value.Value.{Value}
use Rattle.u_rule.specs.declared.firing.Firing.{Firing}
use Rattle.u_sets.specs.Members.{SomeOf}
use Rattle.u_match.specs.Keys.{lent_lists}
use Rattle.u_match.specs.Joins.{JoinsAll}
use Rattle.u_match.proofs.joining_tokens.Joining.+choosing.Given as goal

abbrev pub decreases-add_all : goal.decreases-add_all
decreases-add_all l = length l.lists.now + length l.lists.now

abbrev pub decreases-add_each : goal.decreases-add_each
decreases-add_each l = length l.others.now + length l.others.now + 1

abbrev pub invariant-add_each-loop-value : goal.invariant-add_each-loop-value
invariant-add_each-loop-value l =
    (l.chosen.items ≡ l.initial.chosen.items)
    × ((f : Firing) → Contains l.found.items f ↔ (Contains l.initial.found.items f ⊎ SomeOf (take l.value-index l.values) (λ (v : Value). JoinsAll l.self.job.now l.self.activity.now (l.initial.chosen.items ++ v ∷ []) (lent_lists l.others)) f))
