use Rattle.std.proofs.Common.{◌≡◌, take}
use Rattle.u_cli.specs.Worlds.{replica_lines}
use Rattle.u_cli.proofs.worlds.replica_lines.Given as goal

abbrev pub invariant-loop-place : goal.invariant-loop-place
invariant-loop-place l = l.lines.items ≡ replica_lines (take l.place l.world.replicas)
