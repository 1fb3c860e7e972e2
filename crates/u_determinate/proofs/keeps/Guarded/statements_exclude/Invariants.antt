use Rattle.std.proofs.Common.{◌<◌, ℕ}
use Rattle.u_determinate.specs.Meetings.{Opposed}
use Rattle.u_determinate.proofs.keeps.Guarded.statements_exclude.Given as goal

abbrev pub invariant-loop-guards : goal.invariant-loop-guards
invariant-loop-guards l =
    (i : ℕ) → i < l.guards-index → Opposed l.self.flow.statements.now i l.one l.other → ⊥
