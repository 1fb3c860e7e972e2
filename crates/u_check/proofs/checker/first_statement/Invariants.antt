use Rattle.std.proofs.Common.{ℕ, ◌+◌, ◌<◌}
use Rattle.u_check.specs.Rules.{StatementBreaks}
use Rattle.u_check.proofs.checker.first_statement.Given as goal

abbrev pub invariant-loop-i : goal.invariant-loop-i
invariant-loop-i l = (m : ℕ) → m < l.i + 1 → StatementBreaks l.blocks l.rule l.block m → ⊥
