use Rattle.std.proofs.Common.{◌≡◌, ◌-◌}
use Rattle.u_cli.specs.Worlds.{merges}
use Rattle.u_cli.proofs.worlds.merges.Given as goal

abbrev pub invariant-loop-other : goal.invariant-loop-other
invariant-loop-other l = l.events.items ≡ merges (l.other - 1)
