-- What `explain` tells of a file.
use Rattle.std.specs.Prelude.{◌≡◌, ℕ, ◌⊎◌, Bool, true, false, List, ◌++◌, codes}
use Rattle.u_program.specs.Parts.{BlockParts}
use Rattle.u_determinate.specs.Breaches as breaches
use Rattle.u_determinate.specs.declared.answer.Strictness.{Strictness}
use Rattle.u_determinate.specs.declared.answer.Strictness.TheVariants.{Strict, Loose}
use Rattle.u_determinate.specs.Meetings as meetings
use Rattle.u_determinate.specs.declared.verdict.Determinacy.{Determinacy}
use Rattle.u_determinate.specs.declared.verdict.Determinacy.TheVariants.{Determinate, Meets}
use Rattle.u_commands.specs.Statuses.{status_of_error}
use Rattle.u_commands.specs.Checks.{strictness_line, determinacy_line}
use Rattle.u_commands.specs.Inputs.{IsInputOf, InputRefused}
use Rattle.u_commands.specs.declared.input.Input.{Input}
use Rattle.u_commands.specs.declared.command_error.CommandError.{CommandError}

-- the line, and something behind it
pub record TellsBehind (line written : List ℕ) : Type 0 where
  pub why : List ℕ
  pub is : written ≡ line ++ why

-- `strict` alone, or the line of the first place where the program is not, and after it why
abbrev pub SaysStrictness : Strictness → List ℕ → Type 0
SaysStrictness Strict written = written ≡ codes "strict\n"
SaysStrictness (Loose rule block at) written =
    TellsBehind (strictness_line (Loose rule block at)) written

-- what is told is so of the program: of a strict one `strict`, and of any other where it is not
pub record ExplainsStrictness (p : List BlockParts) (written : List ℕ) : Type 0 where
  pub strictness : Strictness
  pub answer : breaches.IsAnswer p strictness
  pub exact : breaches.IsExact p strictness
  pub said : SaysStrictness strictness written

-- that there is nothing to explain, or the line of the first place where the program is not
-- determinate, and after it why
abbrev pub SaysDeterminacy : Determinacy → List ℕ → Type 0
SaysDeterminacy Determinate written = written ≡ codes "nothing to explain\n"
SaysDeterminacy (Meets place) written = TellsBehind (determinacy_line (Meets place)) written

-- what is told is so of the program: of a determinate one nothing, and of any other where it is not
pub record ExplainsDeterminacy (p : List BlockParts) (written : List ℕ) : Type 0 where
  pub determinacy : Determinacy
  pub answer : meetings.IsAnswer p determinacy
  pub exact : meetings.IsExact p determinacy
  pub said : SaysDeterminacy determinacy written

-- what is told of a program that breaks no rule of the checker
abbrev pub TellsAllowed : List BlockParts → Bool → List ℕ → Type 0
TellsAllowed p true written = ExplainsStrictness p written
TellsAllowed p false written = ExplainsDeterminacy p written

-- that, with the status 0
abbrev pub ExplainsAllowed : List BlockParts → Bool → List ℕ → ℕ → Type 0
ExplainsAllowed p strict text status = TellsAllowed p strict text × (status ≡ 0)

-- the fault is no want of memory, and has that status
pub record ExplainsRefusal (fault : CommandError) (status : ℕ) : Type 0 where
  pub text : status_of_error fault ≡ 5 → ⊥
  pub ended : status ≡ status_of_error fault

-- the file stands for a program, of which that is told; or it is refused, with that status
abbrev pub Explains : List ℕ → List ℕ → Bool → List ℕ → ℕ → Type 0
Explains path bytes strict text status =
    ((input : Input) × IsInputOf path bytes input × ExplainsAllowed input.checked.blocks strict text status)
    ⊎ ((fault : CommandError) × InputRefused path bytes fault × ExplainsRefusal fault status)

-- there is no memory, also to compile a source
abbrev pub IsNoMemory : CommandError → Type 0
IsNoMemory fault = status_of_error fault ≡ 5
