use Rattle.std.proofs.Common.{◌<◌, ℕ}
use Rattle.u_determinate.specs.Meetings.{Asks}
use Rattle.u_determinate.proofs.first_meeting.first_at.Given as goal

abbrev pub invariant-loop-number : goal.invariant-loop-number
invariant-loop-number l = (m : ℕ) → m < l.number → Asks l.meeting l.guarded.flow.statements.now m
