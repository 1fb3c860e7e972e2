-- What was read of a reader.
use Rattle.std.specs.Prelude.{◌≡◌, ℕ, ◌≤◌, ◌<◌, List, Option, IfSome, length}
use Rattle.u_commands.specs.declared.command_error.CommandError.{CommandError}
use Rattle.u_commands.specs.declared.command_error.CommandError.TheVariants as faults

unfoldable pub input_limit : ℕ
input_limit = 67108864

-- where the reader's bytes are known: all of them, and not too many; or too many
abbrev pub ReadsAll : Option (List ℕ) → List ℕ → Type 0
ReadsAll known bytes = IfSome known (λ xs. bytes ≡ xs) × (length bytes ≤ input_limit)

abbrev pub ReadFails : Option (List ℕ) → CommandError → Type 0
ReadFails known faults.InputTooLong = IfSome known (λ xs. input_limit < length xs)
ReadFails known faults.NotReadable = Unit {0}
ReadFails known faults.NoMemory = Unit {0}
ReadFails known fault = ⊥
