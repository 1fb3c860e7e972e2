use Rattle.std.proofs.Common.{◌≤◌, ◌-◌, length, take}
use Rattle.u_machine.specs.Taking.{HasSoManyNew}
use Rattle.u_machine.specs.Invariant.{state_of}
use Rattle.u_machine.proofs.parts.Parts.compare_all_new.Given as goal

abbrev pub invariant-loop-place : goal.invariant-loop-place
invariant-loop-place l = record {
  counted : HasSoManyNew (state_of l.self) (take l.place l.firings) l.count;
  within : l.place ≤ length l.firings;
}

abbrev pub decreases-loop-place : goal.decreases-loop-place
decreases-loop-place l = length l.firings - l.place
