use Rattle.std.proofs.Common.{◌<◌, ℕ}
use Rattle.u_determinate.specs.Flow.{arc_of}
use Rattle.u_determinate.specs.Meetings.{ArcsOpposed}
use Rattle.u_determinate.proofs.keeps.Guarded.exclude.Given as goal

abbrev pub invariant-loop-guards : goal.invariant-loop-guards
invariant-loop-guards l =
    (i : ℕ) → i < l.guards-index → ArcsOpposed l.self.flow.statements.now i (arc_of l.one) (arc_of l.other) → ⊥
