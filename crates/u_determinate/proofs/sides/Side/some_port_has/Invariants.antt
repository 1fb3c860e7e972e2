use Rattle.u_determinate.specs.Guards.{ArcOf}
use Rattle.u_determinate.specs.Flow.{IsMarked, SomePort}
use Rattle.u_determinate.proofs.sides.Side.some_port_has.Given as goal

abbrev pub invariant-loop-place : goal.invariant-loop-place
invariant-loop-place l = SomePort l.self.flow.statements.now (ArcOf l.self.flow.statements.now l.self.control l.self.value (IsMarked l.marks)) l.number l.place → ⊥
