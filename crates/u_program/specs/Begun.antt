-- A program of which some lines were read: whole blocks, and the last one.
use Rattle.std.specs.Prelude.{◌≡◌, ℕ, ◌+◌, ◌≤◌, List, ◌++◌, length}
use Rattle.std.specs.List.{AllByRecursion}
use Rattle.u_name.specs.Block.{IsBlock}
use Rattle.u_base.specs.Number.{IsUpTo}
use Rattle.u_base.specs.Pieces.{pieces}
use Rattle.u_program.specs.declared.reading.Line.{Line}
use Rattle.u_program.specs.declared.reading.Line.TheVariants.{Block, Loop, Statement}
use Rattle.u_program.specs.declared.program.Version.{Version}
use Rattle.u_program.specs.Parts.{BlockParts}
use Rattle.u_program.specs.Limits.{Limits, AtMost, AreLoops, IsStatement, IsBlockOf, no_limits}
use Rattle.u_program.specs.Text.{block_line, loop_line, statement_line, block_lines, blocks_lines}

abbrev pub line_text : Version → Line → List ℕ
line_text version (Block name) = block_line name
line_text version (Loop n h) = loop_line n h
line_text version (Statement n s) = statement_line version n s

abbrev pub IsLine : Version → Line → Type 0
IsLine version (Block name) = IsBlock name
IsLine version (Loop n h) = IsUpTo 100 n × (h ≤ 99)
IsLine version (Statement n s) = IsUpTo 1000 n × IsStatement (no_limits version) s

-- the lines behind the header
abbrev pub part_lines : Version → List BlockParts → BlockParts → List (List ℕ)
part_lines version done last = blocks_lines version done ++ block_lines version last

pub record IsPart (limits : Limits) (done : List BlockParts) (last : BlockParts) : Type 0 where
  pub each : AllByRecursion (IsBlockOf limits) done
  pub name : IsBlock last.name
  pub loops : AreLoops 1 last.loops
  pub few_loops : AtMost limits.loops (length last.loops)
  pub statements : AllByRecursion (IsStatement limits) last.statements
  pub few : AtMost limits.statements (length last.statements)
  pub one : AtMost limits.statements 1
  pub blocks : AtMost limits.blocks (length done + 1)

-- these lines were read, and this is left
pub record IsRead (bytes : List ℕ) (ls : List (List ℕ)) (rest : List ℕ) : Type 0 where
  pub all : pieces 10 bytes ≡ (ls ++ (pieces 10 rest).0, (pieces 10 rest).1)
