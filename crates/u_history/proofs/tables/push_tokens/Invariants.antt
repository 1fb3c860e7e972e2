use Rattle.std.proofs.Common.{◌≡◌, ◌++◌, map, take}
use Rattle.u_sets.specs.Columns.{named, deref_value}
use Rattle.u_history.specs.Tables.{token_entry}
use Rattle.u_history.proofs.tables.push_tokens.Given as goal

abbrev pub invariant-loop-pair : goal.invariant-loop-pair
invariant-loop-pair l = l.list.items ≡ l.fn.list.items ++ map (token_entry l.port) (named l.names (map deref_value (take l.pair-index l.pairs)))
