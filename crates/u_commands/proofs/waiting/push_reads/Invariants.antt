use Rattle.std.proofs.Common.{◌≡◌, ◌++◌, take, map}
use Rattle.u_base.specs.Spaced.{ended}
use Rattle.u_commands.specs.Waits.{read_line}
use Rattle.u_commands.proofs.waiting.push_reads.Given as goal

abbrev pub invariant-loop-read : goal.invariant-loop-read
invariant-loop-read l =
    l.out.items ≡ l.initial.out.items ++ ended (map (read_line l.origins) (take l.read-index l.reads))
