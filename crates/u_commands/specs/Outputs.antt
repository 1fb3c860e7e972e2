-- What a writer holds after an output.
use Rattle.std.specs.Prelude.{◌≡◌, ◌⊎◌, List, ℕ, ◌++◌, Option, Result, Ok, Err, decimal}
use Rattle.std.specs.Io.KnownBytes.{Appends, Keeps}
use Rattle.u_commands.specs.declared.told.Told.{Told}
use Rattle.u_commands.specs.declared.command_error.CommandError.{CommandError}
use Rattle.u_commands.specs.declared.command_error.CommandError.TheVariants as faults

-- the whole text was written
abbrev pub WritesAll : Option (List ℕ) → Option (List ℕ) → List ℕ → Type 0
WritesAll old new text = Appends old new text

-- a prefix of the text was written
pub record WritesPrefix (old new : Option (List ℕ)) (text : List ℕ) : Type 0 where
  pub front : List ℕ
  pub rest : List ℕ
  pub is : text ≡ front ++ rest
  pub written : Appends old new front

-- a word, and a number behind it
abbrev pub numbered : List ℕ → ℕ → List ℕ
numbered word n = word ++ decimal n

-- what stands before and after a text is written, for each answer
abbrev pub WritesTold : List ℕ → ℕ → Option (List ℕ) → Result ℕ CommandError → Option (List ℕ) → Type 0
WritesTold text status old (Ok n) new = (n ≡ status) × WritesAll old new text
WritesTold text status old (Err fault) new = (fault ≡ faults.NotWritten) × WritesPrefix old new text

-- the same of what a command tells, if it tells something
abbrev pub Finishes : Result Told CommandError → Option (List ℕ) → Result ℕ CommandError → Option (List ℕ) → Type 0
Finishes (Ok told) old result new = WritesTold told.text.items told.status old result new
Finishes (Err fault) old result new = (result ≡ Err fault) × Keeps old new

-- What stands before and after, for each answer of a command over texts: of such a text and status the whole is
-- written, or a prefix; at each other fault there is such a reason, and nothing is written.
abbrev pub TextAnswer : (List ℕ → ℕ → Type 0) → (CommandError → Type 0) → Option (List ℕ) → Result ℕ CommandError → Option (List ℕ) → Type 0
TextAnswer Tells Refuses old (Ok status) new = (text : List ℕ) × Tells text status × WritesAll old new text
TextAnswer Tells Refuses old (Err fault) new =
    (Refuses fault × Keeps old new)
    ⊎ ((fault ≡ faults.NotWritten) × (text : List ℕ) × (status : ℕ) × Tells text status × WritesPrefix old new text)
