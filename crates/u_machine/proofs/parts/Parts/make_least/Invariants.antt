use Rattle.std.proofs.Common.{length}
use Rattle.u_machine.specs.Invariant.{Invariant, MakesMore}
use Rattle.u_machine.proofs.parts.Parts.make_least.Given as goal

abbrev pub invariant-loop-self : goal.invariant-loop-self
invariant-loop-self l = record { kept : Invariant l.self; makes : MakesMore l.fn.self l.self }

abbrev pub decreases-loop-self : goal.decreases-loop-self
decreases-loop-self l = length l.self.late
