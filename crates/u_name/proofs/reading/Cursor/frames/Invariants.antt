use Rattle.std.proofs.Common.{◌≡◌, ◌+◌}
use Rattle.u_name.specs.Context.{depth, Top}
use Rattle.u_name.specs.NameReader.{frames_from}
use Rattle.u_name.proofs.reading.Cursor.frames.Given as goal

abbrev pub invariant-loop-left : goal.invariant-loop-left
invariant-loop-left l = (depth l.context + l.left ≡ l.count) × (frames_from l.left l.context l.self.rest.now ≡ frames_from l.count Top l.initial.self.rest.now)

abbrev pub decreases-loop-left : goal.decreases-loop-left
decreases-loop-left l = l.left
