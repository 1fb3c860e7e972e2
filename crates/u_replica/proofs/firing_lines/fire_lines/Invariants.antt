use Rattle.std.proofs.Common.{length}
use Rattle.u_machine.specs.State.{IsSettled}
use Rattle.u_machine.specs.Calls.{Runs}
use Rattle.u_replica.specs.FiredLines.{AreFired}
use Rattle.u_replica.proofs.firing_lines.fire_lines.Given as goal

abbrev pub invariant-loop-spelled : goal.invariant-loop-spelled
invariant-loop-spelled g l =
    AreFired l.bytes l.rest l.machine.log × Runs l.fn.machine l.machine.log l.machine × IsSettled l.machine

abbrev pub decreases-loop-spelled : goal.decreases-loop-spelled
decreases-loop-spelled g l = length l.rest
