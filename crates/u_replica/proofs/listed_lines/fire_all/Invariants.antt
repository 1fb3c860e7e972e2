use Rattle.std.proofs.Common.{◌≡◌, ◌-◌, length}
use Rattle.u_rule.specs.EntryOrder.{FiringList}
use Rattle.u_replica.specs.ListedLines.{texts, FiresAmong}
use Rattle.u_replica.proofs.listed_lines.fire_all.Given as goal

abbrev pub invariant-loop-fired : goal.invariant-loop-fired
invariant-loop-fired g l =
    (l.listed.lines ≡ l.fn.listed.lines)
    × (more : FiringList) × (l.fired ≡ length more) × FiresAmong l.fn.machine (texts l.fn.listed.lines.items) more l.machine

abbrev pub decreases-loop-fired : goal.decreases-loop-fired
decreases-loop-fired g l = length l.listed.lines.items - l.fired
