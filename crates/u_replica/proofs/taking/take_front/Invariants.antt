use Rattle.std.proofs.Common.{◌+◌, ◌-◌, ◌≤◌, ◌++◌, length}
use Rattle.u_machine.specs.State.{State}
use Rattle.u_rule.specs.EntryOrder.{FiringList}
use Rattle.u_replica.specs.Takings.{TookFront}
use Rattle.u_replica.proofs.taking.take_front.Given as goal

abbrev pub invariant-loop-count : goal.invariant-loop-count
invariant-loop-count g l =
    (
    (base : State) (before : FiringList) → TookFront base (before ++ l.firings) (length before) l.fn.machine
    → TookFront base (before ++ l.firings) (length before + l.count) l.machine
    )
    × (l.count ≤ length l.firings)

abbrev pub decreases-loop-count : goal.decreases-loop-count
decreases-loop-count g l = length l.firings - l.count
