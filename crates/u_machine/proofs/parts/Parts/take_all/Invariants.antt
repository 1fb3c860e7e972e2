use Rattle.std.proofs.Common.{take}
use Rattle.u_machine.specs.State.{IsSettled}
use Rattle.u_machine.specs.Taking.{TakesAll}
use Rattle.u_machine.specs.Invariant.{state_of, Invariant}
use Rattle.u_machine.proofs.parts.Parts.take_all.Given as goal

abbrev pub invariant-loop-firing : goal.invariant-loop-firing
invariant-loop-firing l = record {
  kept : Invariant l.self;
  takes : TakesAll (state_of l.initial.self) (take l.firing-index l.firings) (state_of l.self);
  settled : IsSettled (state_of l.self);
}
