-- What a firing gives, as it is held.
use Rattle.std.specs.Prelude.{[], ◌∷◌}
use Rattle.u_rule.specs.EntryOrder.{EntryList}
use Rattle.u_rule.specs.declared.entry.Entry.TheVariants as entries
use Rattle.u_rule.specs.declared.held.Given.{Given}
use Rattle.u_rule.specs.declared.held.Given.TheVariants as held

-- the entries: the tokens that are sent, one token, or those of a list
abbrev pub entries_given : Given → EntryList
entries_given (held.Sent tokens) = tokens
entries_given (held.Alone token) = entries.Token token ∷ []
entries_given (held.Listed several) = several.items
