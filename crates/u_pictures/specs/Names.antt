-- The names of nodes and clusters in the picture of a run.
use Rattle.std.specs.Prelude.{ℕ, List, ◌∷◌, ◌++◌, codes}
use Rattle.std.specs.Fmt.{decimal}
use Rattle.u_name.specs.Context.{Tree}
use Rattle.u_name.specs.NameText.{context_text}
use Rattle.u_name.specs.Cell.{cell_text}
use Rattle.u_rule.specs.EntryText.{entry_text}
use Rattle.u_rule.specs.declared.entry.Entry.{Entry}
use Rattle.u_rule.specs.declared.entry.Entry.TheVariants as entries

-- a write is drawn at its cell, and any other entry has a node of its own
unfoldable pub entry_name : Entry → List ℕ
entry_name (entries.Write w) = cell_text w.cell
entry_name e = entry_text e

-- `cluster_CONTEXT`
abbrev pub context_cluster : Tree → List ℕ
context_cluster u = codes "cluster_" ++ context_text u

-- `cluster_CONTEXT.INITIATION`
abbrev pub turn_cluster : Tree → ℕ → List ℕ
turn_cluster u i = context_cluster u ++ (46 ∷ decimal i)
