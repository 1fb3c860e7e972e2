-- Numbers of the activities of tokens.
use Rattle.std.proofs.Common.{inl, ℕ, List}
use Rattle.u_name.specs.Name.{Activity}
use Rattle.u_rule.specs.declared.entry.Entry.{Entry}
use Rattle.u_rule.specs.declared.entry.Entry.TheVariants as entries
use Rattle.u_match.specs.Numbers.{IsNumberOfEntry, NumbersEntry}

pub numbers : (names : List Activity) (e : Entry) (n : ℕ) → IsNumberOfEntry names e n → NumbersEntry names e n
numbers names (entries.Token t) n h = inl h
numbers names (entries.Write w) n h = tt
numbers names (entries.Fault x) n h = tt
numbers names (entries.Answer v) n h = tt
