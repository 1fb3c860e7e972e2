-- When two programs are equal: where their texts are, since a program has one text.
use Rattle.std.specs.Prelude.{Bool, ◌==◌, ℕ, List}
use Rattle.std.specs.Ordering.{on}
use lib.Pointwise.{pointwise}
use Rattle.u_program.specs.Parts.{ProgramParts}
use Rattle.u_program.specs.Text.{program_text}

-- the bytes that the program is written as
abbrev pub text_of : ProgramParts → List ℕ
text_of p = program_text p.version p.blocks

-- whether the two programs have the same text
abbrev pub has_same_text : ProgramParts → ProgramParts → Bool
has_same_text = on text_of (pointwise ◌==◌)
