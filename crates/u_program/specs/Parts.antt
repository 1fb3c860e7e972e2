-- The parts of a program.
use Rattle.std.specs.Prelude.{ℕ, List}
use Rattle.u_program.specs.declared.program.Kind.{Kind}
use Rattle.u_program.specs.declared.program.Destination.{Destination}
use Rattle.u_program.specs.declared.program.Version.{Version}

-- a statement: its region, what it does, where its value goes; where a `switch` sends it on false
pub record StatementParts : Type 0 where
  pub region : ℕ
  pub kind : Kind
  pub to : List Destination
  pub otherwise : List Destination

-- a block: its name, for each of its loops the region that holds it, and its statements
pub record BlockParts : Type 0 where
  pub name : List ℕ
  pub loops : List ℕ
  pub statements : List StatementParts

-- a program: the version of its text, and its blocks in their order there
pub record ProgramParts : Type 0 where
  pub version : Version
  pub blocks : List BlockParts

abbrev pub statement : ℕ → Kind → List Destination → List Destination → StatementParts
statement region kind to otherwise = record { region = region; kind = kind; to = to; otherwise = otherwise }

abbrev pub block : List ℕ → List ℕ → List StatementParts → BlockParts
block name loops statements = record { name = name; loops = loops; statements = statements }

abbrev pub program : Version → List BlockParts → ProgramParts
program version blocks = record { version = version; blocks = blocks }
