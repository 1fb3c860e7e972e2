use Rattle.std.proofs.Common.{◌≡◌, [], ◌-◌, ◌≤◌, length}
use Rattle.u_machine.specs.Calls.{Applies}
use Rattle.u_machine.specs.Invariant.{state_of, woken_of, Invariant, EnteredBefore, GoesOn}
use Rattle.u_machine.proofs.parts.Parts.settle_logged.Given as goal

abbrev pub invariant-loop-place : goal.invariant-loop-place
invariant-loop-place l = record {
  kept : Invariant l.self;
  applies : Applies (state_of l.fn.self) (state_of l.self);
  goes : GoesOn l.fn.self l.self;
  idle : woken_of l.self ≡ [];
  from : l.self.applied_count ≤ l.place;
  to : l.place ≤ length l.self.log.items;
  all : EnteredBefore l.self l.place;
}

abbrev pub decreases-loop-place : goal.decreases-loop-place
decreases-loop-place l = l.fn.self.limit - l.place
