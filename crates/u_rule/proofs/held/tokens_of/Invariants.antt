use Rattle.std.proofs.Common.{◌≡◌, map, take}
use Rattle.u_rule.specs.Rule.{beside, sent}
use Rattle.u_rule.proofs.held.tokens_of.Given as goal

abbrev pub invariant-loop-destination : goal.invariant-loop-destination
invariant-loop-destination l = l.all.items ≡ map (sent (beside l.near) l.value) (take l.destination-index l.to)
