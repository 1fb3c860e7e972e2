use Rattle.std.proofs.Common.{◌≡◌, ◌++◌, length}
use Rattle.u_program.specs.declared.program.Version.{Version}
use Rattle.u_rule.specs.EntryOrder.{FiringList}
use Rattle.u_delta.specs.Lines.{lines_behind}
use Rattle.u_replica.specs.CheckpointText.{begun_lines}
use Rattle.u_replica.specs.CheckpointReading.{AreRead}
use Rattle.u_replica.proofs.checkpoint_reading.read_firings.Given as goal

abbrev pub invariant-loop-line : goal.invariant-loop-line
invariant-loop-line l =
    (head : Version) (fs : FiringList) → l.before ≡ length fs → AreRead head fs
    → AreRead head (fs ++ l.firings.items)
    × (lines_behind (begun_lines head fs) l.bytes ≡ lines_behind (begun_lines head (fs ++ l.firings.items)) l.rest)

abbrev pub decreases-loop-line : goal.decreases-loop-line
decreases-loop-line l = length l.rest
