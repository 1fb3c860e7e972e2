-- Where the text of a context stands in bytes that are written.
use Rattle.std.specs.Prelude.{◌≡◌, ℕ, ◌+◌, List, ◌++◌, length}
use Rattle.u_name.specs.Context.{Tree}
use Rattle.u_name.specs.NameText.{context_text}

-- the bytes from `start` up to `end` are the text of the context
pub record StandsAt (bytes : List ℕ) (context : Tree) (start end : ℕ) : Type 0 where
  pub before : List ℕ
  pub behind : List ℕ
  pub there : bytes ≡ before ++ (context_text context ++ behind)
  pub starts : start ≡ length before
  pub ends : end ≡ start + length (context_text context)
