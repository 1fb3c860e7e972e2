use Rattle.std.proofs.Common.{◌≡◌, ◌≤◌, take, length}
use Rattle.std.specs.Prelude.{vec_capacity}
use Rattle.u_machine.specs.State.{IsMachine, IsSettled}
use Rattle.u_machine.specs.Obeying.{Obeys, Extends, AreMet}
use Rattle.u_machine.proofs.machine.Machine.obey_all.Given as goal

abbrev pub invariant-loop-command : goal.invariant-loop-command
invariant-loop-command l = record {
  obeys : Obeys l.fn.self (take l.command-index l.commands) l.replies.items l.self;
  machine : IsMachine l.self;
  extends : Extends l.fn.self l.self;
  settled : IsSettled l.fn.self → AreMet l.replies.items → IsSettled l.self;
  count : length l.replies.items ≡ l.command-index;
  room : length l.commands ≤ vec_capacity l.replies;
}
