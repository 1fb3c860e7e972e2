use Rattle.std.proofs.Common.{◌≡◌, take}
use Rattle.u_history.specs.Tables.{PortTables, contents_of, listed_tokens, AreSharing}
use Rattle.u_history.proofs.tables.Tables.tokens_sharing.Given as goal

abbrev pub invariant-loop-place : goal.invariant-loop-place
invariant-loop-place l = (shared : PortTables) × AreSharing (take l.place (contents_of l.self).tokens) shared × (l.list.items ≡ listed_tokens 1 shared)
