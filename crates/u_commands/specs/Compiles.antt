-- What `compile` tells of the bytes of a source.
use Rattle.std.specs.Prelude.{◌≡◌, ◌⊎◌, ℕ, Bool, true, false, List}
use Rattle.u_program.specs.Parts.{ProgramParts}
use Rattle.u_program.specs.Text.{program_text}
use Rattle.u_compile.specs.Maps.{map_text}
use Rattle.u_compile.specs.declared.origins.BlockOrigins.{BlockOrigins}
use Rattle.u_commands.specs.Inputs.{IsCompiledOf, IsCompileFault}
use Rattle.u_commands.specs.declared.command_error.CommandError.{CommandError}
use Rattle.u_commands.specs.declared.command_error.CommandError.TheVariants as faults

-- the text of a program, or if it is asked for that of its map
abbrev pub compile_text : ProgramParts → List BlockOrigins → Bool → List ℕ
compile_text program origins false = program_text program.version program.blocks
compile_text program origins true = map_text origins

-- that text of the program that is made of the source, with the status 0
pub record Compiles (source : List ℕ) (map : Bool) (text : List ℕ) (status : ℕ) : Type 0 where
  pub program : ProgramParts
  pub origins : List BlockOrigins
  pub compiled : IsCompiledOf source program origins
  pub is : text ≡ compile_text program origins map
  pub ended : status ≡ 0

-- why nothing is told: the source is refused, or there is no memory
abbrev pub CompileRefused : List ℕ → CommandError → Type 0
CompileRefused source fault = IsCompileFault source fault ⊎ (fault ≡ faults.NoMemory)
