use Rattle.std.proofs.Common.{◌≡◌, ◌++◌, take}
use Rattle.u_base.specs.Spaced.{ended}
use Rattle.u_program.specs.Text.{statement_lines}
use Rattle.u_program.proofs.writing.push_statements.Given as goal

abbrev pub invariant-loop-i : goal.invariant-loop-i
invariant-loop-i l = l.out.items ≡ l.initial.out.items ++ ended (statement_lines l.version 1 (take l.i l.statements))
