-- What is returned for the bytes of a text.
use Rattle.std.specs.Prelude.{◌≡◌, List, ℕ}
use Rattle.u_program.specs.declared.read_error.ReadError.{ReadError}
use Rattle.u_program.specs.declared.read_error.ReadError.TheVariants.{BadLine, TooMany, Truncated, NoMemory}
use Rattle.u_program.specs.declared.part.LineFault.{LineFault}
use Rattle.u_program.specs.declared.part.LineFault.TheVariants as line_faults
use Rattle.u_program.specs.Parts.{ProgramParts}
use Rattle.u_program.specs.Limits.{IsProgram, limits_of}
use Rattle.u_program.specs.Text.{program_text}
use Rattle.u_program.specs.FirstBad.{IsBadLine, IsTooMany, IsTruncated}

-- the bytes are the text of this program
abbrev pub IsTextOf : List ℕ → ProgramParts → Type 0
IsTextOf bytes p = IsProgram (limits_of p.version) p.blocks × (bytes ≡ program_text p.version p.blocks)

-- why they are no program's text
abbrev pub IsReadError : List ℕ → ReadError → Type 0
IsReadError bytes (BadLine n) = IsBadLine bytes n
IsReadError bytes (TooMany n) = IsTooMany bytes n
IsReadError bytes Truncated = IsTruncated bytes
IsReadError bytes NoMemory = Unit {0}

abbrev pub fault_at : LineFault → ℕ → ReadError
fault_at line_faults.Bad n = BadLine n
fault_at line_faults.TooMany n = TooMany n
fault_at line_faults.NoMemory n = NoMemory
