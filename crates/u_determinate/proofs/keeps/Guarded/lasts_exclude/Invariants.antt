use Rattle.std.proofs.Common.{◌<◌, ℕ}
use Rattle.u_determinate.specs.Determinate.{Exclude}
use Rattle.u_determinate.specs.Meetings.{IsLastOf}
use Rattle.u_determinate.proofs.keeps.Guarded.lasts_exclude.Given as goal

abbrev pub invariant-loop-other : goal.invariant-loop-other
invariant-loop-other l =
    (n : ℕ) → n < l.other → IsLastOf l.self.flow.statements.now l.region n → Exclude l.self.flow.statements.now l.number n
