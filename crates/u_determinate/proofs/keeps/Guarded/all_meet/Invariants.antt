use Rattle.std.proofs.Common.{◌≡◌}
use Rattle.u_determinate.specs.Determinate.{MayMeet}
use Rattle.u_determinate.specs.Flow.{arc_of}
use Rattle.u_determinate.proofs.Pairs.{PairsBefore}
use Rattle.u_determinate.proofs.keeps.Guarded.all_meet.Given as goal

abbrev pub invariant-loop-i : goal.invariant-loop-i
invariant-loop-i l =
    PairsBefore (λ j k. k.port ≡ j.port → MayMeet l.self.flow.statements.now (arc_of j) (arc_of k)) l.i l.links
