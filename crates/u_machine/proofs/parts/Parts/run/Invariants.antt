use Rattle.std.proofs.Common.{◌≡◌, length, List}
use Rattle.u_rule.specs.declared.firing.Firing.{Firing}
use Rattle.u_machine.specs.State.{IsSettled, NothingReady}
use Rattle.u_machine.specs.Calls.{Runs}
use Rattle.u_machine.specs.Invariant.{state_of, Invariant}
use Rattle.u_machine.proofs.parts.Parts.run.Given as goal

abbrev pub invariant-loop-made : goal.invariant-loop-made
invariant-loop-made l = record {
  kept : Invariant l.self;
  still : IsSettled (state_of l.fn.self) → NothingReady (state_of l.fn.self) → l.self ≡ l.fn.self;
  ran : (gs : List Firing) × Runs (state_of l.fn.self) gs (state_of l.self) × (length gs ≡ l.made);
}
