-- Places of a program's text, and the lines that may stand there.
use Rattle.std.specs.Prelude.{◌≡◌, ℕ, suc, ◌≤◌, ◌<◌, ◌==◌, if◌then◌else◌, List, [], ◌∷◌, ◌++◌, length}
use Rattle.u_program.specs.declared.program.Version.{Version}
use Rattle.u_program.specs.declared.program.Version.TheVariants as versions
use Rattle.u_program.specs.Parts.{BlockParts}
use Rattle.u_program.specs.Limits.{limits_of}
use Rattle.u_program.specs.Text.{header}
use Rattle.u_program.specs.Begun.{IsPart, part_lines}
use Rattle.u_program.specs.FirstBad.{Begins}
use Rattle.u_explain.specs.declared.text_place.Sort.{Sort}
use Rattle.u_explain.specs.declared.text_place.Sort.TheVariants as sorts
use Rattle.u_explain.specs.declared.text_place.TextPlace.{TextPlace}
use Rattle.u_explain.specs.declared.text_place.TextPlace.TheVariants as places
use Rattle.u_explain.specs.Left.{Either, Behind}
use Rattle.u_explain.specs.Lines.{EndOn, BlockOn, LoopOn, StatementOn}

-- the line may stand behind these lines: some program begins with them and with it
abbrev pub IsAllowed : List (List ℕ) → List ℕ → Type 0
IsAllowed before line = Begins limits_of (before ++ (line ∷ []))

-- What was read of a program: its version, how many blocks, and how many loops and statements of the last
-- block.
pub record IsInside (before : List (List ℕ)) (version : Version) (blocks loops statements : ℕ) : Type 0 where
  pub done : List BlockParts
  pub last : BlockParts
  pub part : IsPart (limits_of version) done last
  pub lines : before ≡ header version ∷ part_lines version done last
  pub blocks_are : blocks ≡ suc (length done)
  pub loops_are : loops ≡ length last.loops
  pub statements_are : statements ≡ length last.statements

-- the place behind these lines
abbrev pub IsPlace : List (List ℕ) → TextPlace → Type 0
IsPlace before places.Header = before ≡ []
IsPlace before (places.FirstBlock version) = before ≡ header version ∷ []
IsPlace before (places.Inside version blocks loops statements) = IsInside before version blocks loops statements

-- a block ends where it has a statement, and there are 64 blocks at most
abbrev pub BlockWhere : ℕ → ℕ → List ℕ → Type 0
BlockWhere blocks statements t = (1 ≤ statements) × (blocks < 64) × BlockOn t

-- loops stand before statements, and there are 99 at most
abbrev pub LoopWhere : ℕ → ℕ → List ℕ → Type 0
LoopWhere loops statements t = (statements ≡ 0) × (loops < 99) × LoopOn (suc loops) t

-- there are 999 statements at most
abbrev pub StatementWhere : Version → ℕ → List ℕ → Type 0
StatementWhere version statements t = (statements < 999) × StatementOn version (suc statements) t

-- the lines that may stand inside of a program
abbrev pub InsideOn : Version → ℕ → ℕ → ℕ → List ℕ → Type 0
InsideOn version blocks loops statements = Either (BlockWhere blocks statements) (Either (LoopWhere loops statements) (StatementWhere version statements))

-- the first line of a text of the version
abbrev pub VersionOn : Version → List ℕ → Type 0
VersionOn version = Behind (header version) EndOn

-- the first line of a text
abbrev pub HeaderOn : List ℕ → Type 0
HeaderOn = Either (VersionOn versions.One) (VersionOn versions.Two)

-- the lines that may stand at the place
abbrev pub PlaceOn : TextPlace → List ℕ → Type 0
PlaceOn places.Header = HeaderOn
PlaceOn (places.FirstBlock version) = BlockOn
PlaceOn (places.Inside version blocks loops statements) = InsideOn version blocks loops statements

-- which sort of a line it is, by its first byte
abbrev pub sort_of : List ℕ → Sort
sort_of [] = sorts.Statement
sort_of (c ∷ cs) = if c == 98 then sorts.Block else (if c == 108 then sorts.Loop else sorts.Statement)
