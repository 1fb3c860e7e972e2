use Rattle.std.proofs.Common.{◌≡◌, ◌++◌, ◌+◌, take}
use Rattle.u_rule.specs.Rule.{tokens_from}
use Rattle.u_rule.proofs.rule.add_tokens.Given as goal

abbrev pub invariant-loop-value : goal.invariant-loop-value
invariant-loop-value l = (l.tokens.items ≡ l.fn.tokens.items ++ tokens_from l.activity 1 (take l.value-index l.values)) × (l.port ≡ l.value-index + 1)
