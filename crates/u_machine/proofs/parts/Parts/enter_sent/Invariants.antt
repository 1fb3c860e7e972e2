use Rattle.std.proofs.Common.{◌≡◌, [], take}
use Rattle.std.specs.Prelude.{Contains}
use Rattle.u_rule.specs.declared.entry.Entry.{Entry}
use Rattle.u_machine.specs.Calls.{Applies}
use Rattle.u_machine.specs.Invariant.{state_of, woken_of, Invariant, GoesOn}
use Rattle.u_machine.proofs.parts.Parts.enter_sent.Given as goal

abbrev pub invariant-loop-place : goal.invariant-loop-place
invariant-loop-place l = record {
  kept : Invariant l.self;
  applies : Applies (state_of l.fn.self) (state_of l.self);
  goes : GoesOn l.fn.self l.self;
  idle : woken_of l.self ≡ [];
  all : (e : Entry) → Contains (take l.place l.sent) e → Contains l.self.matcher e;
}
