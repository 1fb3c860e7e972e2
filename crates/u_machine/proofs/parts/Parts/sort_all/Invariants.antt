use Rattle.std.proofs.Common.{◌≡◌, length}
use Rattle.u_machine.specs.Invariant.{state_of, woken_of, Invariant, GoesOn}
use Rattle.u_machine.proofs.parts.Parts.sort_all.Given as goal

abbrev pub invariant-loop-self : goal.invariant-loop-self
invariant-loop-self l = record {
  kept : Invariant l.self;
  same : state_of l.self ≡ state_of l.fn.self;
  goes : GoesOn l.fn.self l.self;
}

abbrev pub decreases-loop-self : goal.decreases-loop-self
decreases-loop-self l = length (woken_of l.self)
