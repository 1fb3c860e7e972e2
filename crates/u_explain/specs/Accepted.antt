-- Which bytes are the text of a program that the checker takes.
use Rattle.std.specs.Prelude.{ℕ, List}
use Rattle.u_program.specs.Parts.{ProgramParts}
use Rattle.u_program.specs.Answer.{IsTextOf}
use Rattle.u_check.specs.Rules.{IsChecked}

-- the text of a program that breaks no rule
pub record IsAccepted (bytes : List ℕ) : Type 0 where
  pub program : ProgramParts
  pub text : IsTextOf bytes program
  pub checked : IsChecked program.blocks
