use Rattle.std.proofs.Common.{◌-◌, ◌≤◌}
use Rattle.u_machine.specs.Calls.{Applies}
use Rattle.u_machine.specs.Invariant.{state_of, Invariant, SameButApplied}
use Rattle.u_machine.proofs.parts.Parts.close_before.Given as goal

abbrev pub invariant-loop-self : goal.invariant-loop-self
invariant-loop-self l = record {
  kept : Invariant l.self;
  applies : Applies (state_of l.fn.self) (state_of l.self);
  still : SameButApplied l.fn.self l.self;
  from : l.fn.self.applied_count ≤ l.self.applied_count;
  to : l.self.applied_count ≤ l.place;
}

abbrev pub decreases-loop-self : goal.decreases-loop-self
decreases-loop-self l = l.place - l.self.applied_count
