-- What the commands over texts write of the bytes of a program and the word of an argument.
use Rattle.std.specs.Prelude.{◌≡◌, ◌⊎◌, ℕ, List, []}
use Rattle.u_program.specs.Parts.{ProgramParts}
use Rattle.u_check.specs.Jobs.{JobParts}
use Rattle.u_commands.specs.Inputs.{IsCheckedOf, CheckRefused}
use Rattle.u_commands.specs.Checks.{Checks}
use Rattle.u_commands.specs.Runs.{HasJob, JobRefused, ReportsRunOfJob}
use Rattle.u_commands.specs.Saves.{SavesRunOfJob}
use Rattle.u_commands.specs.Traces.{Traces, NotTraced}
use Rattle.u_commands.specs.Restores.{RestoresJob, CheckpointRefused}
use Rattle.u_commands.specs.declared.checking.Asked.{Asked}
use Rattle.u_commands.specs.declared.command_error.CommandError.{CommandError}
use Rattle.u_commands.specs.declared.command_error.CommandError.TheVariants as faults
use Rattle.u_cli.specs.Worlds.{TellsWorld, WorldRefused}
use Rattle.u_cli.specs.Fleets.{TellsFleet, FleetRefused}
use Rattle.u_cli.specs.declared.worlds.WorldPlan.{WorldPlan}

-- what `check` tells of the program with that text
abbrev pub TellsCheck : List ℕ → Asked → List ℕ → ℕ → Type 0
TellsCheck bytes asked text status =
    (program : ProgramParts) × IsCheckedOf bytes program × Checks program.blocks asked text status

abbrev pub CheckNotTold : List ℕ → CommandError → Type 0
CheckNotTold bytes fault = CheckRefused bytes fault ⊎ (fault ≡ faults.NoMemory)

-- what is told of the job of the texts
abbrev pub TellsRun : List ℕ → List ℕ → ℕ → List ℕ → ℕ → Type 0
TellsRun bytes word firings text status = HasJob bytes word (λ job. ReportsRunOfJob job firings text status)

abbrev pub TellsSave : List ℕ → List ℕ → ℕ → List ℕ → ℕ → Type 0
TellsSave bytes word firings text status = HasJob bytes word (λ job. SavesRunOfJob job firings text status)

abbrev pub TellsTrace : List ℕ → List ℕ → List ℕ → ℕ → List ℕ → ℕ → Type 0
TellsTrace bytes word entry firings text status =
    HasJob bytes word (λ job. Traces job [] entry firings text status)

abbrev pub TellsRestore : List ℕ → List ℕ → List ℕ → ℕ → List ℕ → ℕ → Type 0
TellsRestore bytes word checkpoint firings text status =
    HasJob bytes word (λ job. RestoresJob job firings checkpoint text status)

abbrev pub TellsWorldOf : List ℕ → List ℕ → WorldPlan → List ℕ → ℕ → Type 0
TellsWorldOf bytes word plan text status = HasJob bytes word (λ job. TellsWorld job plan text status)

abbrev pub TellsFleetOf : List ℕ → List ℕ → (workers rounds : ℕ) → List ℕ → ℕ → Type 0
TellsFleetOf bytes word workers rounds text status =
    HasJob bytes word (λ job. TellsFleet job workers rounds text status)

-- why nothing is told: there is no job of the texts, or nothing is told of it
abbrev pub NotTold : List ℕ → List ℕ → (JobParts → CommandError → Type 0) → CommandError → Type 0
NotTold bytes word R fault = JobRefused bytes word fault ⊎ HasJob bytes word (λ job. R job fault)

abbrev pub RunNotTold : List ℕ → List ℕ → CommandError → Type 0
RunNotTold bytes word = NotTold bytes word (λ job fault. fault ≡ faults.NoMemory)

abbrev pub TraceNotTold : List ℕ → List ℕ → List ℕ → ℕ → CommandError → Type 0
TraceNotTold bytes word entry firings = NotTold bytes word (λ job fault. NotTraced job entry firings fault)

abbrev pub RestoreNotTold : List ℕ → List ℕ → List ℕ → ℕ → CommandError → Type 0
RestoreNotTold bytes word checkpoint firings =
    NotTold bytes word (λ job fault. CheckpointRefused job firings checkpoint fault)

abbrev pub WorldNotTold : List ℕ → List ℕ → WorldPlan → CommandError → Type 0
WorldNotTold bytes word plan = NotTold bytes word (λ job fault. WorldRefused job plan fault)

abbrev pub FleetNotTold : List ℕ → List ℕ → CommandError → Type 0
FleetNotTold bytes word = NotTold bytes word FleetRefused
