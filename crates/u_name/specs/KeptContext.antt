-- A context that is kept, with its text.
use Rattle.std.specs.Prelude.{◌≡◌, ℕ, List}
use Rattle.u_name.specs.Context.{Tree, IsContext}
use Rattle.u_name.specs.NameText.{context_text}

-- the bytes are the text of a context whose parts are in their ranges
abbrev pub IsItsText : Tree → List ℕ → Type 0
IsItsText context text = IsContext context × (text ≡ context_text context)
