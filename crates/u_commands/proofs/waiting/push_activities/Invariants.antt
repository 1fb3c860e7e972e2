use Rattle.std.proofs.Common.{◌≡◌, ◌++◌, take, map}
use Rattle.u_base.specs.Spaced.{ended}
use Rattle.u_commands.specs.Waits.{waiting_line}
use Rattle.u_commands.proofs.waiting.push_activities.Given as goal

abbrev pub invariant-loop-waiting : goal.invariant-loop-waiting
invariant-loop-waiting l =
    l.out.items ≡ l.initial.out.items ++ ended (map (waiting_line l.origins) (take l.waiting-index l.activities))
