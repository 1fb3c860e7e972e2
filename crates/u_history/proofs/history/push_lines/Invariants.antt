use Rattle.std.proofs.Common.{◌≡◌, ◌++◌, map, take}
use Rattle.u_base.specs.Spaced.{ended}
use Rattle.u_rule.specs.EntryText.{entry_text}
use Rattle.u_history.specs.Outcomes.{lent}
use Rattle.u_history.proofs.history.push_lines.Given as goal

abbrev pub invariant-loop-entry : goal.invariant-loop-entry
invariant-loop-entry l = l.out.items ≡ l.fn.out.items ++ ended (map entry_text (take l.entry-index (lent l.entries)))
