use Rattle.std.proofs.Common.{◌≡◌, ◌++◌, take, map}
use Rattle.u_base.specs.Spaced.{ended}
use Rattle.u_trace.specs.Text.{read_text}
use Rattle.u_trace.proofs.writing.push_reads.Given as goal

abbrev pub invariant-loop-read : goal.invariant-loop-read
invariant-loop-read l = l.out.items ≡ l.initial.out.items ++ ended (map read_text (take l.read-index l.reads))
