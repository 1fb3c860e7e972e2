-- What is told of texts, and written.
use Rattle.std.specs.Prelude.{◌≡◌, ℕ, List, Option, Result, Ok, Err, MatchResult}
use Rattle.std.proofs.Common.{inl, inr, subst, sym}
use Rattle.u_commands.specs.declared.told.Told.{Told}
use Rattle.u_commands.specs.declared.command_error.CommandError.{CommandError}
use Rattle.u_commands.specs.declared.command_error.CommandError.TheVariants as faults
use Rattle.u_commands.specs.Outputs.{Finishes, TextAnswer}

abbrev refused : CommandError → Result ℕ CommandError
refused fault = Err fault

same_fault : (a b : CommandError) → refused b ≡ refused a → a ≡ b
same_fault a b e = cc

-- what is told is written whole or in part, and if nothing is told, nothing is written
pub answers : (told : Result Told CommandError) (T : List ℕ → ℕ → Type 0) (R : CommandError → Type 0) (old new : Option (List ℕ)) (result : Result ℕ CommandError)
    → MatchResult told (λ t. T t.text.items t.status) R → Finishes told old result new → TextAnswer T R old result new
answers (Ok t) T R old new (Ok status) tells f = (t.text.items, subst (λ (n : ℕ). T t.text.items n) (sym f.0) tells, f.1)
answers (Ok t) T R old new (Err fault) tells f = inr (f.0, t.text.items, t.status, tells, f.1)
answers (Err fault) T R old new (Ok status) refuses f = absurd (cc)
answers (Err fault) T R old new (Err other) refuses f = inl (subst R (same_fault fault other f.0) refuses, f.1)
