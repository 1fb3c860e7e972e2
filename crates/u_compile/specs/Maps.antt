-- Maps: which place of a source each statement of its program stands for, and the texts of maps.
use Rattle.std.specs.Prelude.{◌≡◌, ℕ, suc, List, [], ◌∷◌, ◌++◌, length, map, Option, Some, None, codes, decimal}
use Rattle.u_program.specs.Parts.{BlockParts}
use Rattle.u_compile.specs.declared.origins.Role.{Role}
use Rattle.u_compile.specs.declared.origins.Role.TheVariants as roles
use Rattle.u_compile.specs.declared.origins.Origin.{Origin}
use Rattle.u_compile.specs.declared.origins.BlockOrigins.{BlockOrigins}

-- the word of a map for what a statement does
unfoldable pub role_word : Role → List ℕ
role_word roles.Parameter = codes "param"
role_word roles.Constant = codes "const"
role_word roles.Operator = codes "op"
role_word roles.Read = codes "read"
role_word roles.Choice = codes "if"
role_word roles.Call = codes "call"
role_word roles.Outcome = codes "result"
role_word roles.Write = codes "write"
role_word roles.Gate = codes "gate"
role_word roles.Enter = codes "enter"
role_word roles.Next = codes "next"
role_word roles.Last = codes "last"
role_word roles.Leave = codes "leave"
role_word roles.Test = codes "test"
role_word roles.Fan = codes "fan"
role_word roles.End = codes "end"

-- the words for it that people read
unfoldable pub role_words : Role → List ℕ
role_words roles.Parameter = codes "parameter"
role_words roles.Constant = codes "constant"
role_words roles.Operator = codes "operator"
role_words roles.Read = codes "read"
role_words roles.Choice = codes "choice"
role_words roles.Call = codes "call"
role_words roles.Outcome = codes "result"
role_words roles.Write = codes "write"
role_words roles.Gate = codes "gate"
role_words roles.Enter = codes "entry"
role_words roles.Next = codes "next value"
role_words roles.Last = codes "last value"
role_words roles.Leave = codes "exit"
role_words roles.Test = codes "test"
role_words roles.Fan = codes "fan"
role_words roles.End = codes "end"

-- ` NAME`, if there is one
abbrev pub name_part : List ℕ → Option (List ℕ) → List ℕ
name_part before None = []
name_part before (Some name) = before ++ name

-- `BLOCK.STATEMENT`
unfoldable pub statement_text : List ℕ → ℕ → List ℕ
statement_text block n = block ++ (46 ∷ decimal n)

-- `BLOCK.STATEMENT LINE:COLUMN ROLE [NAME]`
unfoldable pub map_line : List ℕ → ℕ → Origin → List ℕ
map_line block n o =
    statement_text block n
    ++ ((32 ∷ decimal o.place.line)
    ++ ((58 ∷ decimal o.place.column)
    ++ ((32 ∷ role_word o.role) ++ (name_part (32 ∷ []) o.name ++ (10 ∷ [])))))

-- a line for each statement of a block, the first of which has this number
abbrev pub block_lines : List ℕ → ℕ → List Origin → List ℕ
block_lines block n [] = []
block_lines block n (o ∷ os) = map_line block n o ++ block_lines block (suc n) os

-- the lines of the blocks, in their order
abbrev pub map_lines : List BlockOrigins → List ℕ
map_lines [] = []
map_lines (b ∷ bs) = block_lines b.name 1 b.origins.items ++ map_lines bs

-- the text of a map
unfoldable pub map_text : List BlockOrigins → List ℕ
map_text blocks = codes "u-map 1\n" ++ map_lines blocks

-- the name of a block, and how many statements it has
abbrev pub block_size : BlockParts → List ℕ × ℕ
block_size b = (b.name, length b.statements)

abbrev pub origins_size : BlockOrigins → List ℕ × ℕ
origins_size b = (b.name, length b.origins.items)

-- each statement of each block comes from somewhere, and nothing else does
abbrev pub AreOrigins : List BlockParts → List BlockOrigins → Type 0
AreOrigins blocks origins = map origins_size origins ≡ map block_size blocks
