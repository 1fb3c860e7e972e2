use Rattle.std.proofs.Common.{ℕ, ◌+◌, ◌<◌}
use Rattle.u_check.specs.Rules.{Breaches}
use Rattle.u_check.proofs.checker.first_of_rule.Given as goal

abbrev pub invariant-loop-i : goal.invariant-loop-i
invariant-loop-i l = (b s : ℕ) → b < l.i + 1 → Breaches l.blocks l.rule b s → ⊥
