use Rattle.std.proofs.Common.{◌≡◌, ◌++◌, take}
use Rattle.u_rule.specs.FiringText.{values_text}
use Rattle.u_rule.proofs.writing.push_values.Given as goal

abbrev pub invariant-loop-value : goal.invariant-loop-value
invariant-loop-value l = l.out.items ≡ l.initial.out.items ++ values_text (take l.value-index l.values)
