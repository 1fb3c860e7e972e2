use Rattle.std.proofs.Common.{◌≡◌, length, List}
use Rattle.u_rule.specs.declared.firing.Firing.{Firing}
use Rattle.u_machine.specs.Calls.{Fires}
use Rattle.u_share.specs.Lines.{text_of}
use Rattle.u_share.specs.Calls.{Prints}
use Rattle.u_share.proofs.bursting.fire_into.Given as goal

abbrev pub invariant-loop-made : goal.invariant-loop-made
invariant-loop-made g l =
    (gs : List Firing) × Fires l.fn.machine gs l.machine × Prints (g.W.Write.contents l.fn.writer) (g.W.Write.contents l.writer) (text_of gs) l.piece.items × (length gs ≡ l.made)
