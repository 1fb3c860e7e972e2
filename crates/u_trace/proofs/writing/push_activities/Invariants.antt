use Rattle.std.proofs.Common.{◌≡◌, ◌++◌, take, map}
use Rattle.u_base.specs.Spaced.{ended}
use Rattle.u_trace.specs.Text.{waiting_text}
use Rattle.u_trace.proofs.writing.push_activities.Given as goal

abbrev pub invariant-loop-item : goal.invariant-loop-item
invariant-loop-item l = l.out.items ≡ l.initial.out.items ++ ended (map waiting_text (take l.item-index l.waiting))
