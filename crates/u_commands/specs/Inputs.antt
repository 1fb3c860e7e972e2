-- What a file stands for: the program with that text, or the one that a source compiles to.
use Rattle.std.specs.Prelude.{◌≡◌, ◌⊎◌, ℕ, IsTrue, nat_eq, codes, List, [], ℤ}
use Rattle.std.specs.List.{ends_with, starts_with}
use Rattle.u_program.specs.Parts.{ProgramParts}
use Rattle.u_program.specs.declared.program.Version.TheVariants as versions
use Rattle.u_program.specs.declared.read_error.ReadError.{ReadError}
use Rattle.u_program.specs.declared.read_error.ReadError.TheVariants as read_errors
use Rattle.u_program.specs.Answer.{IsTextOf}
use Rattle.u_program.specs.FirstBad.{IsBadLine, IsTooMany, IsTruncated}
use Rattle.u_check.specs.Jobs.{JobParts}
use Rattle.u_check.specs.Rules.{IsChecked, IsFirstBreach}
use Rattle.u_check.specs.declared.rule.Breach.{Breach}
use Rattle.u_determinate.specs.Determinate.{IsDeterminate}
use Rattle.u_compile.specs.Compiled.{HasProcedures, IsMadeOf, IsToldOf}
use Rattle.u_compile.specs.Maps.{AreOrigins}
use Rattle.u_compile.specs.declared.compile_error.CompileError.{CompileError}
use Rattle.u_compile.specs.declared.origins.BlockOrigins.{BlockOrigins}
use Rattle.u_commands.specs.Arguments.{IsArgumentOf}
use Rattle.u_commands.specs.declared.input.Input.{Input}
use Rattle.u_commands.specs.declared.command_error.CommandError.{CommandError}
use Rattle.u_commands.specs.declared.command_error.CommandError.TheVariants as faults

-- the bytes are the text of the program, which breaks no rule
pub record IsCheckedOf (bytes : List ℕ) (program : ProgramParts) : Type 0 where
  pub text : IsTextOf bytes program
  pub checked : IsChecked program.blocks

-- the program's text is that of a program which breaks the named rule first
pub record BreaksRule (bytes : List ℕ) (breach : Breach) : Type 0 where
  pub program : ProgramParts
  pub text : IsTextOf bytes program
  pub first : IsFirstBreach program.blocks breach.rule breach.block breach.statement

-- why there is no checked program
abbrev pub CheckRefused : List ℕ → CommandError → Type 0
CheckRefused bytes (faults.LineNotAllowed n) = IsBadLine bytes n
CheckRefused bytes (faults.TooMany n) = IsTooMany bytes n
CheckRefused bytes faults.CutShort = IsTruncated bytes
CheckRefused bytes (faults.Rule breach) = BreaksRule bytes breach
CheckRefused bytes faults.NoMemory = Unit {0}
CheckRefused bytes fault = ⊥

abbrev pub error_of : ReadError → CommandError
error_of (read_errors.BadLine n) = faults.LineNotAllowed n
error_of (read_errors.TooMany n) = faults.TooMany n
error_of read_errors.Truncated = faults.CutShort
error_of read_errors.NoMemory = faults.NoMemory

-- the path ends in `.ul`, and the bytes do not begin as a program does
pub record IsSource (path bytes : List ℕ) : Type 0 where
  pub ends : IsTrue (ends_with nat_eq path (codes ".ul"))
  pub is_none : ¬ IsTrue (starts_with nat_eq bytes (codes "u-program"))

-- The program is made of the source with these bytes: of version 2, with a block for each procedure, it breaks no
-- rule and is determinate. Each of its statements comes from somewhere.
pub record IsCompiledOf (bytes : List ℕ) (program : ProgramParts) (origins : List BlockOrigins) : Type 0 where
  pub made : IsMadeOf bytes program.blocks
  pub procedures : HasProcedures bytes program.blocks
  pub version : program.version ≡ versions.Two
  pub checked : IsChecked program.blocks
  pub determinate : IsDeterminate program.blocks
  pub each : AreOrigins program.blocks origins

abbrev pub IsCompiledInput : List ℕ → Input → Type 0
IsCompiledInput bytes input = IsCompiledOf bytes input.checked input.origins.items

-- why a source is not compiled
pub record IsCompileFault (bytes : List ℕ) (fault : CommandError) : Type 0 where
  pub error : CompileError
  pub is : fault ≡ faults.Source error
  pub told : IsToldOf bytes error

-- what the file with that path and these bytes stands for
abbrev pub IsInputOf : List ℕ → List ℕ → Input → Type 0
IsInputOf path bytes input =
    (IsSource path bytes × IsCompiledInput bytes input)
    ⊎ ((IsSource path bytes → ⊥) × IsCheckedOf bytes input.checked × (input.origins.items ≡ []))

-- why it stands for nothing
abbrev pub InputRefused : List ℕ → List ℕ → CommandError → Type 0
InputRefused path bytes fault =
    (IsSource path bytes × IsCompileFault bytes fault)
    ⊎ ((IsSource path bytes → ⊥) × CheckRefused bytes fault)

-- The job is of what the file stands for, on the argument that the word gives, and nothing is known beforehand of
-- the outside. That is where its statements come from.
pub record IsTaskOf (path bytes word : List ℕ) (job : JobParts) (origins : List BlockOrigins) : Type 0 where
  pub input : Input
  pub is : IsInputOf path bytes input
  pub program : job.program ≡ input.checked
  pub from : origins ≡ input.origins.items
  pub argument : IsArgumentOf word job.argument
  pub table : job.table ≡ []

-- the file stands for something, and the word gives no argument
pub record LacksArgument (path bytes word : List ℕ) (fault : CommandError) : Type 0 where
  pub input : Input
  pub is : IsInputOf path bytes input
  pub none : (z : ℤ) → IsArgumentOf word z → ⊥
  pub told : fault ≡ faults.ArgumentNotAllowed

-- why there is no such job
abbrev pub TaskRefused : List ℕ → List ℕ → List ℕ → CommandError → Type 0
TaskRefused path bytes word fault = InputRefused path bytes fault ⊎ LacksArgument path bytes word fault
