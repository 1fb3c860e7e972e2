use Rattle.std.proofs.Common.{◌≡◌}
use Rattle.u_determinate.specs.Guards.{ArcOf}
use Rattle.u_determinate.specs.Flow.{IsMarked, arc_of}
use Rattle.u_determinate.proofs.PortLaws.{Before}
use Rattle.u_determinate.proofs.sides.Side.links_have.Given as goal

abbrev pub invariant-loop-link : goal.invariant-loop-link
invariant-loop-link l =
    Before (λ k. k.port ≡ l.port → ArcOf l.self.flow.statements.now l.self.control l.self.value (IsMarked l.marks) (arc_of k)) l.link-index l.links
