-- What `blame` tells of a job, the text of a name and a port.
use Rattle.std.specs.Prelude.{◌≡◌, ℕ, ◌⊎◌, List, [], ◌∷◌, ◌++◌, Option, Some, None, codes}
use Rattle.u_name.specs.Name.{Activity}
use Rattle.u_name.specs.Cell.{CellOf, cell_text}
use Rattle.u_name.specs.NameText.{name_text}
use Rattle.u_name.specs.NameReading.{IsNameOf, IsNameErrorOf}
use Rattle.u_name.specs.declared.reading.NameTextError.TheVariants as name_errors
use Rattle.u_check.specs.Jobs.{JobParts}
use Rattle.u_base.specs.Firing.{Held, Plain}
use Rattle.u_rule.specs.Rule.{own_of}
use Rattle.u_rule.specs.FiringText.{firing_text}
use Rattle.u_rule.specs.declared.firing.Firing.{Firing}
use Rattle.u_rule.specs.declared.parts.Written.{Written}
use Rattle.u_history.specs.Outcomes.{ValueAt, HasTwo}
use Rattle.u_machine.specs.Calls.{firing_le}
use Rattle.u_trace.specs.Blames.{IsFoundAt, BlamesByWrites}
use Rattle.u_trace.specs.declared.blamed.Blame.{Blame}
use Rattle.u_trace.specs.declared.blamed.BlamedWrite.{BlamedWrite}
use Rattle.u_trace.specs.declared.blame_error.BlameError.{BlameError}
use Rattle.u_trace.specs.declared.blame_error.BlameError.TheVariants as blame_errors
use Rattle.u_value.specs.Values.{value_text}
use Rattle.u_compile.specs.declared.origins.BlockOrigins.{BlockOrigins}
use Rattle.u_commands.specs.Placed.{place_at}
use Rattle.u_commands.specs.declared.command_error.CommandError.{CommandError}
use Rattle.u_commands.specs.declared.command_error.CommandError.TheVariants as faults

-- how many firings a run that is looked at has at most
unfoldable pub most_blamed : ℕ
most_blamed = 100000

-- `cell CELL WRITER VALUE`
unfoldable pub pair_text : CellOf → Written → List ℕ
pair_text cell w =
    codes "cell "
    ++ (cell_text cell ++ ((32 ∷ []) ++ (name_text w.writer ++ ((32 ∷ []) ++ value_text w.value))))

-- the line of a report for a write in the cell, and after it that of the firing that gives it, each with its place
unfoldable pub write_lines : List BlockOrigins → CellOf → BlamedWrite → List ℕ
write_lines origins cell w =
    pair_text cell w.pair
    ++ (place_at origins cell.name
    ++ ((10 ∷ []) ++ (firing_text w.firing ++ (place_at origins w.firing.activity ++ (10 ∷ [])))))

-- the lines of both writes, or that there is no cell
unfoldable pub blamed_text : List BlockOrigins → Option Blame → List ℕ
blamed_text origins None = codes "no cell\n"
blamed_text origins (Some b) = write_lines origins b.cell b.first ++ write_lines origins b.cell b.second

-- fs is the plain run of the job: each firing the least that is enabled and new, so many at most. What
-- is written is what is to blame for two values at the port in it; if the program is strict or
-- determinate, that is a cell.
pub record BlamesRun (job : JobParts) (origins : List BlockOrigins) (n : Activity) (p : ℕ) (fs : List Firing) (written : List ℕ) : Type 0 where
  pub plain : Plain (own_of job) firing_le most_blamed fs
  pub found : Option Blame
  pub is_found : IsFoundAt job fs n p found
  pub by_writes : BlamesByWrites job found
  pub is : written ≡ blamed_text origins found

abbrev pub BlamesJob : JobParts → List BlockOrigins → Activity → ℕ → List ℕ → Type 0
BlamesJob job origins n p written = (fs : List Firing) × BlamesRun job origins n p fs written

-- the fault that is told if nothing is blamed
abbrev pub blame_fault : BlameError → CommandError
blame_fault blame_errors.NotClashed = faults.PortNotClashed
blame_fault blame_errors.NoMemory = faults.NoMemory

-- the plain run of the job does not hold two values at the port
abbrev pub LacksClash : JobParts → Activity → ℕ → Type 0
LacksClash job n p =
    (fs : List Firing) × Plain (own_of job) firing_le most_blamed fs
    × (HasTwo (ValueAt (Held (own_of job) fs) n p) → ⊥)

-- why nothing is blamed in the run of a job
abbrev pub BlameRefused : JobParts → Activity → ℕ → CommandError → Type 0
BlameRefused job n p faults.PortNotClashed = LacksClash job n p
BlameRefused job n p faults.NoMemory = Unit {0}
BlameRefused job n p fault = ⊥

-- why the word is no name: the first byte with which no name's text goes on, or 65 `(`
abbrev pub NameRefused : List ℕ → CommandError → Type 0
NameRefused text (faults.NameNotAllowed k) = IsNameErrorOf text (name_errors.BadName k)
NameRefused text faults.NameTooDeep = IsNameErrorOf text name_errors.Deep
NameRefused text faults.NoMemory = Unit {0}
NameRefused text fault = ⊥

-- this holds of the activity whose name has that text
abbrev pub HasName : List ℕ → (Activity → Type 0) → Type 0
HasName text P = (n : Activity) × IsNameOf text n × P n

-- that of the activity with the name, with the status 0
abbrev pub Blames : JobParts → List BlockOrigins → List ℕ → ℕ → List ℕ → ℕ → Type 0
Blames job origins text p written status =
    HasName text (λ n. BlamesJob job origins n p written) × (status ≡ 0)

-- why nothing is blamed: the text is no name's, or the run does not hold two values at the port
abbrev pub NotBlamed : JobParts → List ℕ → ℕ → CommandError → Type 0
NotBlamed job text p fault = NameRefused text fault ⊎ HasName text (λ n. BlameRefused job n p fault)
