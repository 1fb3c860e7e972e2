use Rattle.std.proofs.Common.{◌≡◌, ◌++◌, take, map}
use Rattle.u_base.specs.Spaced.{ended}
use Rattle.u_commands.specs.Traces.{firing_line}
use Rattle.u_commands.proofs.tracing.push_placed.Given as goal

abbrev pub invariant-loop-firing : goal.invariant-loop-firing
invariant-loop-firing l =
    l.text.items ≡ l.initial.text.items ++ ended (map (firing_line l.origins) (take l.firing-index l.firings))
