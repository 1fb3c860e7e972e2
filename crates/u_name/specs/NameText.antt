-- The texts of contexts and names.
use Rattle.std.specs.Prelude.{ℕ, List, [], ◌∷◌, ◌++◌}
use Rattle.std.specs.Fmt.{decimal}
use Rattle.u_name.specs.Context.{Tree, Top, InLoop, InCall}
use Rattle.u_name.specs.Name.{Activity}

-- the part of a context's text behind the outer context's: .c.Ll.i or .c.s.i
abbrev pub loop_part : List ℕ → ℕ → ℕ → List ℕ
loop_part block number initiation = 46 ∷ (block ++ (46 ∷ 76 ∷ (decimal number ++ (46 ∷ decimal initiation))))

abbrev pub call_part : List ℕ → ℕ → ℕ → List ℕ
call_part block statement initiation = 46 ∷ (block ++ (46 ∷ (decimal statement ++ (46 ∷ decimal initiation))))

-- `-`, `(u.c.Ll.i)` or `(u.c.s.i)`
unfoldable pub context_text : Tree → List ℕ
context_text Top = 45 ∷ []
context_text (InLoop outer block number initiation) = (40 ∷ context_text outer) ++ (loop_part block number initiation ++ (41 ∷ []))
context_text (InCall outer block statement initiation) = (40 ∷ context_text outer) ++ (call_part block statement initiation ++ (41 ∷ []))

-- `u.c.s.i`
unfoldable pub name_text : Activity → List ℕ
name_text n = context_text n.context ++ call_part n.block n.statement n.initiation
