-- The numbers of the activities of tokens.
use Rattle.std.specs.Prelude.{ℕ, List, ⊤}
use Rattle.u_name.specs.Name.{Activity}
use Rattle.u_rule.specs.declared.entry.Entry.{Entry}
use Rattle.u_rule.specs.declared.entry.Entry.TheVariants as entries
use Rattle.u_sets.specs.Columns.{IsNumberOf, MayNumber}

-- if the entry is a token, n is the number of its activity
abbrev pub IsNumberOfEntry : List Activity → Entry → ℕ → Type 0
IsNumberOfEntry names (entries.Token t) n = IsNumberOf names t.activity n
IsNumberOfEntry names (entries.Write w) n = ⊤
IsNumberOfEntry names (entries.Fault x) n = ⊤
IsNumberOfEntry names (entries.Answer v) n = ⊤

-- or that of no activity, where its own has none
abbrev pub NumbersEntry : List Activity → Entry → ℕ → Type 0
NumbersEntry names (entries.Token t) n = MayNumber names t.activity n
NumbersEntry names (entries.Write w) n = ⊤
NumbersEntry names (entries.Fault x) n = ⊤
NumbersEntry names (entries.Answer v) n = ⊤
