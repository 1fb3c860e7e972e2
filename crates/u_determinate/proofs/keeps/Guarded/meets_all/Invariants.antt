use Rattle.std.proofs.Common.{◌≡◌}
use Rattle.u_determinate.specs.Determinate.{MayMeet}
use Rattle.u_determinate.specs.Flow.{arc_of}
use Rattle.u_determinate.proofs.PortLaws.{Before}
use Rattle.u_determinate.proofs.keeps.Guarded.meets_all.Given as goal

abbrev pub invariant-loop-other : goal.invariant-loop-other
invariant-loop-other l =
    Before (λ k. k.port ≡ l.one.port → MayMeet l.self.flow.statements.now (arc_of l.one) (arc_of k)) l.other-index l.links
