use Rattle.std.proofs.Common.{◌≡◌, ◌++◌, take}
use Rattle.u_base.specs.Spaced.{ended}
use Rattle.u_program.specs.Text.{loop_lines}
use Rattle.u_program.proofs.writing.push_loops.Given as goal

abbrev pub invariant-loop-i : goal.invariant-loop-i
invariant-loop-i l = l.out.items ≡ l.initial.out.items ++ ended (loop_lines 1 (take l.i l.loops))
