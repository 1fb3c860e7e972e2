-- What is asked of a file and of a job, and what is told.
use Rattle.std.specs.Prelude.{◌≡◌, ◌⊎◌, ℕ, ◌≤◌, Bool, true, false, List, Option, Some, None}
use Rattle.u_name.specs.Context.{IsBetween}
use Rattle.u_check.specs.Jobs.{JobParts}
use Rattle.u_rule.specs.Parts.{most_ports}
use Rattle.u_compile.specs.declared.origins.BlockOrigins.{BlockOrigins}
use Rattle.u_words.specs.declared.request.FileRequest.{FileRequest}
use Rattle.u_words.specs.declared.request.FileRequest.TheVariants.{Check, Explain, Lift, Compile, Draw}
use Rattle.u_words.specs.declared.request.JobRequest.{JobRequest}
use Rattle.u_words.specs.declared.request.JobRequest.TheVariants.{DrawStory, Run, Save, Restore, Trace, Blame, Waits, World}
use Rattle.u_words.specs.declared.request.WorldRequest.{WorldRequest}
use Rattle.u_commands.specs.Inputs.{IsInputOf, InputRefused, IsTaskOf, TaskRefused}
use Rattle.u_commands.specs.Checks.{Checks}
use Rattle.u_commands.specs.Lifts.{Lifts}
use Rattle.u_commands.specs.Compiles.{Compiles, CompileRefused}
use Rattle.u_commands.specs.Explains.{Explains, IsNoMemory}
use Rattle.u_commands.specs.Runs.{ReportsRunOfJob}
use Rattle.u_commands.specs.Saves.{SavesRunOfJob}
use Rattle.u_commands.specs.Restores.{RestoresJob, CheckpointRefused}
use Rattle.u_commands.specs.Traces.{Traces, NotTraced}
use Rattle.u_commands.specs.Blaming.{Blames, NotBlamed}
use Rattle.u_commands.specs.Waits.{WaitsAfterRun}
use Rattle.u_commands.specs.declared.checking.Asked.{Asked}
use Rattle.u_commands.specs.declared.input.Input.{Input}
use Rattle.u_commands.specs.declared.command_error.CommandError.{CommandError}
use Rattle.u_commands.specs.declared.command_error.CommandError.TheVariants as faults
use Rattle.u_cli.specs.Drawings.{DrawsProgram, DrawsStory, StoryNotDrawn}
use Rattle.u_cli.specs.Worlds.{TellsWorld, WorldRefused, DrawsWorld, WorldNotDrawn}
use Rattle.u_cli.specs.declared.worlds.Events.{Events}
use Rattle.u_cli.specs.declared.worlds.Events.TheVariants.{Random, Script}
use Rattle.u_cli.specs.declared.worlds.WorldPlan.{WorldPlan}
use Rattle.u_cli.specs.declared.asking.Texts.{Texts}

-- this holds of what the file stands for
abbrev pub OfInput : List ℕ → List ℕ → (Input → Type 0) → Type 0
OfInput path bytes P = (input : Input) × IsInputOf path bytes input × P input

abbrev pub TellsCheck : List ℕ → List ℕ → Asked → List ℕ → ℕ → Type 0
TellsCheck path bytes asked text status =
    OfInput path bytes (λ i. Checks i.checked.blocks asked text status)

abbrev pub TellsLift : List ℕ → List ℕ → List ℕ → ℕ → Type 0
TellsLift path bytes text status = OfInput path bytes (λ i. Lifts i.checked.blocks text status)

abbrev pub TellsDraw : List ℕ → List ℕ → List ℕ → ℕ → Type 0
TellsDraw path bytes text status =
    OfInput path bytes (λ i. DrawsProgram i.checked i.origins.items text status)

-- the file stands for nothing, or there is no memory
abbrev pub ProgramNotTold : List ℕ → List ℕ → CommandError → Type 0
ProgramNotTold path bytes fault = InputRefused path bytes fault ⊎ (fault ≡ faults.NoMemory)

-- what is told of a file
abbrev pub TellsOfFile : List ℕ → List ℕ → FileRequest → List ℕ → ℕ → Type 0
TellsOfFile path bytes (Check strict determinate) text status =
    TellsCheck path bytes (record { strict = strict; determinate = determinate }) text status
TellsOfFile path bytes (Explain strict) text status = Explains path bytes strict text status
TellsOfFile path bytes Lift text status = TellsLift path bytes text status
TellsOfFile path bytes (Compile map) text status = Compiles bytes map text status
TellsOfFile path bytes Draw text status = TellsDraw path bytes text status

-- why nothing is told of it
abbrev pub FileRefused : List ℕ → List ℕ → FileRequest → CommandError → Type 0
FileRefused path bytes (Check strict determinate) fault = ProgramNotTold path bytes fault
FileRefused path bytes (Explain strict) fault = IsNoMemory fault
FileRefused path bytes Lift fault = ProgramNotTold path bytes fault
FileRefused path bytes (Compile map) fault = CompileRefused bytes fault
FileRefused path bytes Draw fault = ProgramNotTold path bytes fault

-- the events that are asked for: random ones, or those of the script if there is one
abbrev pub AreAsked : Events → WorldRequest → List ℕ → Type 0
AreAsked (Random seed count) w other =
    (w.script ≡ None) × (seed ≡ w.seed) × (count ≡ w.events)
AreAsked (Script script) w other = (w.script ≡ None → ⊥) × (script.now ≡ other)

-- what happens in the world that is asked for
abbrev pub IsPlanOf : WorldRequest → List ℕ → WorldPlan → Type 0
IsPlanOf w other plan =
    (plan.replicas ≡ w.replicas) × (plan.firings ≡ w.firings) × AreAsked plan.events w other

abbrev pub TellsPlan : Bool → JobParts → WorldPlan → List ℕ → ℕ → Type 0
TellsPlan false job plan text status = TellsWorld job plan text status
TellsPlan true job plan text status = DrawsWorld job plan text status

abbrev pub PlanNotTold : Bool → JobParts → WorldPlan → CommandError → Type 0
PlanNotTold false job plan fault = WorldRefused job plan fault
PlanNotTold true job plan fault = WorldNotDrawn job plan fault

-- what is told of a world of the job, its picture if that is asked for
abbrev pub TellsOfWorld : JobParts → WorldRequest → List ℕ → List ℕ → ℕ → Type 0
TellsOfWorld job w other text status =
    (plan : WorldPlan) × IsPlanOf w other plan × TellsPlan w.draw job plan text status

abbrev pub WorldNotTold : JobParts → WorldRequest → List ℕ → CommandError → Type 0
WorldNotTold job w other fault =
    (plan : WorldPlan) × IsPlanOf w other plan × PlanNotTold w.draw job plan fault

-- a run has no more than a million firings, a port is one of the first five, and a world has one to eight replicas
abbrev pub JobAllowed : JobRequest → Type 0
JobAllowed (DrawStory entry firings) = firings ≤ 1000000
JobAllowed (Run firings) = firings ≤ 1000000
JobAllowed (Save firings) = firings ≤ 1000000
JobAllowed (Restore checkpoint firings) = Unit {0}
JobAllowed (Trace entry firings) = firings ≤ 1000000
JobAllowed (Blame activity port) = IsBetween 1 port most_ports
JobAllowed (Waits firings) = firings ≤ 1000000
JobAllowed (World w) = IsBetween 1 w.replicas 8

-- what is told of a job whose statements come from there
abbrev pub TellsOfJob : JobRequest → List ℕ → JobParts → List BlockOrigins → List ℕ → ℕ → Type 0
TellsOfJob (DrawStory entry firings) other job origins text status =
    DrawsStory job origins entry.now firings text status
TellsOfJob (Run firings) other job origins text status = ReportsRunOfJob job firings text status
TellsOfJob (Save firings) other job origins text status = SavesRunOfJob job firings text status
TellsOfJob (Restore checkpoint firings) other job origins text status =
    RestoresJob job firings other text status
TellsOfJob (Trace entry firings) other job origins text status =
    Traces job origins entry.now firings text status
TellsOfJob (Blame activity port) other job origins text status =
    Blames job origins activity.now port text status
TellsOfJob (Waits firings) other job origins text status =
    WaitsAfterRun job origins firings text status
TellsOfJob (World w) other job origins text status = TellsOfWorld job w other text status

-- why nothing is told of it
abbrev pub JobNotTold : JobRequest → List ℕ → JobParts → CommandError → Type 0
JobNotTold (DrawStory entry firings) other job fault = StoryNotDrawn job entry.now firings fault
JobNotTold (Run firings) other job fault = fault ≡ faults.NoMemory
JobNotTold (Save firings) other job fault = fault ≡ faults.NoMemory
JobNotTold (Restore checkpoint firings) other job fault = CheckpointRefused job firings other fault
JobNotTold (Trace entry firings) other job fault = NotTraced job entry.now firings fault
JobNotTold (Blame activity port) other job fault = NotBlamed job activity.now port fault
JobNotTold (Waits firings) other job fault = fault ≡ faults.NoMemory
JobNotTold (World w) other job fault = WorldNotTold job w other fault

-- this holds of the job that the texts give
pub record OfTask (texts : Texts) (P : JobParts → List BlockOrigins → Type 0) : Type 0 where
  pub job : JobParts
  pub origins : List BlockOrigins
  pub is : IsTaskOf texts.path.now texts.file.now texts.argument.now job origins
  pub so : P job origins

-- why nothing is told: the texts give no job, or nothing is told of it
abbrev pub TextsRefused : Texts → JobRequest → CommandError → Type 0
TextsRefused texts ask fault =
    TaskRefused texts.path.now texts.file.now texts.argument.now fault
    ⊎ OfTask texts (λ job origins. JobNotTold ask texts.other.now job fault)
