-- The text of a history: a line for each entry.
use Rattle.std.specs.Prelude.{ℕ, List, map}
use Rattle.u_base.specs.Spaced.{ended}
use Rattle.u_rule.specs.EntryText.{entry_text}
use Rattle.u_rule.specs.declared.entry.Entry.{Entry}

unfoldable pub history_text : List Entry → List ℕ
history_text es = ended (map entry_text es)
