use Rattle.std.proofs.Common.{◌≡◌, ◌+◌, take}
use Rattle.u_rule.specs.Rule.{arguments_from}
use Rattle.u_rule.proofs.giving.arguments_at.Given as goal

abbrev pub invariant-loop-argument : goal.invariant-loop-argument
invariant-loop-argument l = (l.entries.items ≡ arguments_from l.first 1 (take l.argument-index l.arguments)) × (l.place ≡ l.argument-index + 1)
