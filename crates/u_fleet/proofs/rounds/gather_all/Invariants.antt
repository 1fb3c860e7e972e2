use Rattle.u_fleet.specs.Gains.{Gains}
use Rattle.u_fleet.proofs.rounds.gather_all.Given as goal

abbrev pub invariant-loop-inlet : goal.invariant-loop-inlet
invariant-loop-inlet g l =
    (goal.iterator-loop-inlet g).can_next l.inlet-iterator
    × (goal.iterator-loop-inlet g).is_finite l.inlet-iterator
    × Gains l.initial.replica.machine l.replica.machine
