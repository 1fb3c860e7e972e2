use Rattle.std.proofs.Common.{◌≡◌, take}
use Rattle.u_history.specs.Tables.{contents_of, listed_tokens, AreDistinct}
use Rattle.u_history.proofs.tables.Tables.tokens_listed.Given as goal

abbrev pub invariant-loop-place : goal.invariant-loop-place
invariant-loop-place l = (l.list.items ≡ listed_tokens 1 (take l.place (contents_of l.self).tokens)) × AreDistinct (take l.place (contents_of l.self).tokens)
