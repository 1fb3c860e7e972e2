-- What `lift` tells of a program that breaks no rule.
use Rattle.std.specs.Prelude.{◌≡◌, ℕ, List}
use Rattle.u_program.specs.Parts.{BlockParts}
use Rattle.u_program.specs.Text.{program_text}
use Rattle.u_program.specs.declared.program.Version.TheVariants as versions

-- the text of the blocks under version 2, with the status 0
abbrev pub Lifts : List BlockParts → List ℕ → ℕ → Type 0
Lifts p text status = (text ≡ program_text versions.Two p) × (status ≡ 0)
