use Rattle.u_determinate.specs.Meetings.{NoEndBefore}
use Rattle.u_determinate.proofs.keeps.Guarded.no_end_before.Given as goal

abbrev pub invariant-loop-other : goal.invariant-loop-other
invariant-loop-other l = NoEndBefore l.self.flow.statements.now l.other
