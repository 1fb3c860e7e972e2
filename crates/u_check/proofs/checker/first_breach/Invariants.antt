use Rattle.std.proofs.Common.{ℕ, ◌<◌}
use Rattle.u_check.specs.Rules.{Breaches}
use Rattle.u_check.specs.declared.rule.Rule.{Rule}
use Rattle.u_check.proofs.Order.{place_of}
use Rattle.u_check.proofs.checker.first_breach.Given as goal

abbrev pub invariant-loop-rule : goal.invariant-loop-rule
invariant-loop-rule l = (r : Rule) (b s : ℕ) → place_of r < l.rule-index → Breaches l.blocks r b s → ⊥
