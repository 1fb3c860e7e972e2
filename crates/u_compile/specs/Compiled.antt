-- What a source is compiled to.
use Rattle.std.specs.Prelude.{◌≡◌, ℕ, List}
use Rattle.u_program.specs.Parts.{ProgramParts, BlockParts}
use Rattle.u_determinate.specs.Determinate.{IsDeterminate}
use Rattle.u_source.specs.Sources.{SourceParts, IsSource, IsSourceError}
use Rattle.u_source.specs.declared.source_error.SourceError.TheVariants as source_error
use Rattle.u_scope.specs.Verdicts.{IsChecked, IsCheckError}
use Rattle.u_scope.specs.declared.check_error.CheckError.{CheckError}
use Rattle.u_scope.specs.declared.check_error.CheckError.TheVariants as check_error
use Rattle.u_scope.specs.declared.checked.Meaning.{Meaning}
use Rattle.u_scope.specs.KindVerdicts.{HasNoClash, IsKindError}
use Rattle.u_scope.specs.declared.kind_error.KindError.{KindError}
use Rattle.u_scope.specs.declared.kind_error.KindError.TheVariants as kind_error
use Rattle.u_compile.specs.declared.compile_error.CompileError.{CompileError}
use Rattle.u_compile.specs.declared.compile_error.CompileError.TheVariants.{Source, Check, Kinds, Refused, NoMemory}
use Rattle.u_compile.specs.declared.origins.BlockOrigins.{BlockOrigins}
use Rattle.u_compile.specs.Maps.{AreOrigins}
use Rattle.u_compile.specs.Procedures.{AreProcedures}
use Rattle.u_compile.specs.Made.{AreMadeOf}

-- a program, and where the statements of its blocks come from
pub record CompiledParts : Type 0 where
  pub program : ProgramParts
  pub origins : List BlockOrigins

abbrev pub compiled : ProgramParts → List BlockOrigins → CompiledParts
compiled program origins = record { program = program; origins = origins }

-- the program is determinate, and each of its statements comes from somewhere
pub record IsCompiled (c : CompiledParts) : Type 0 where
  pub determinate : IsDeterminate c.program.blocks
  pub each : AreOrigins c.program.blocks c.origins

-- the bytes are this source, its names mean this, and its names and its kinds are allowed
pub record IsAllowed (bytes : List ℕ) (s : SourceParts) (ms : List Meaning) : Type 0 where
  pub reads : IsSource bytes s
  pub names : IsChecked s ms
  pub kinds : HasNoClash s ms

-- the bytes are a source whose names and kinds are allowed
pub record IsSomeAllowed (bytes : List ℕ) : Type 0 where
  pub source : SourceParts
  pub meanings : List Meaning
  pub allowed : IsAllowed bytes source meanings

-- the bytes are such a source, and the blocks are its procedures
pub record HasProcedures (bytes : List ℕ) (blocks : List BlockParts) : Type 0 where
  pub source : SourceParts
  pub meanings : List Meaning
  pub allowed : IsAllowed bytes source meanings
  pub are : AreProcedures source.tokens source.nodes blocks

-- the bytes are such a source, and the blocks are made of it
pub record IsMadeOf (bytes : List ℕ) (blocks : List BlockParts) : Type 0 where
  pub source : SourceParts
  pub meanings : List Meaning
  pub allowed : IsAllowed bytes source meanings
  pub are : AreMadeOf source meanings blocks

-- the bytes are a source, and why its names are refused
pub record HasRefusedNames (bytes : List ℕ) (e : CheckError) : Type 0 where
  pub source : SourceParts
  pub reads : IsSource bytes source
  pub why : IsCheckError source e

-- the bytes are a source whose names are allowed, and why its kinds are refused
pub record HasRefusedKinds (bytes : List ℕ) (e : KindError) : Type 0 where
  pub source : SourceParts
  pub meanings : List Meaning
  pub reads : IsSource bytes source
  pub names : IsChecked source meanings
  pub why : IsKindError source meanings e

-- why bytes are not compiled: what is told is the first of these that holds
abbrev pub IsCompileError : List ℕ → CompileError → Type 0
IsCompileError bytes (Source e) = IsSourceError bytes e
IsCompileError bytes (Check e) = HasRefusedNames bytes e
IsCompileError bytes (Kinds e) = HasRefusedKinds bytes e
IsCompileError bytes (Refused p why) = IsSomeAllowed bytes
IsCompileError bytes NoMemory = Unit {0}

-- what may be told of bytes that are an allowed source: that no program is made of it, or want of memory
abbrev pub MayBeTold : CompileError → Type 0
MayBeTold (Source e) = e ≡ source_error.NoMemory
MayBeTold (Check e) = e ≡ check_error.NoMemory
MayBeTold (Kinds e) = e ≡ kind_error.NoMemory
MayBeTold (Refused p why) = Unit {0}
MayBeTold NoMemory = Unit {0}

-- why bytes are not compiled, and of an allowed source nothing but what may be told of it
pub record IsToldOf (bytes : List ℕ) (e : CompileError) : Type 0 where
  pub why : IsCompileError bytes e
  pub rightly : IsSomeAllowed bytes → MayBeTold e

-- what may be told of an allowed source where its program is made
abbrev pub IsToldLast : CompileError → Type 0
IsToldLast (Source e) = ⊥
IsToldLast (Check e) = ⊥
IsToldLast (Kinds e) = ⊥
IsToldLast (Refused p why) = Unit {0}
IsToldLast NoMemory = Unit {0}
