-- How a history lends itself with its numbers.
use Rattle.std.specs.Prelude.{List}
use Rattle.std.specs.Borrow.{Lends, MutBor, Fml}
use Rattle.u_rule.specs.declared.entry.Entry.{Entry}
use Rattle.u_history.specs.Numbered.{NumberedEntries}
use Rattle.u_history.specs.contracts.numbered.NumberedHistory.{the_row as numbered_row}
use Rattle.u_history.specs.contracts.history.History.{the_row}

-- the history ends with the entries that are left behind r
abbrev pub LendsNumbered : MutBor (List Entry) → MutBor NumberedEntries → Fml
LendsNumbered h r = Lends the_row numbered_row h r (λ (w : NumberedEntries). w.entries)
