use Rattle.std.proofs.Common.{take}
use Rattle.u_machine.specs.Taking.{FoundNew}
use Rattle.u_machine.specs.Invariant.{state_of}
use Rattle.u_machine.proofs.parts.Parts.new_of.Given as goal

abbrev pub invariant-loop-firing : goal.invariant-loop-firing
invariant-loop-firing l = FoundNew (state_of l.self) (take l.firing-index l.firings) l.news
