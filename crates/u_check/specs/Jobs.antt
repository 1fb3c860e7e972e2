-- Jobs: a program, the argument that it runs on, and what is known beforehand of the outside.
use Rattle.std.specs.Prelude.{◌≡◌, ℤ, Bool}
use Rattle.std.specs.Ordering.{on, eq_of_both, int_eq}
use Rattle.u_program.specs.Parts.{ProgramParts}
use Rattle.u_program.specs.Equality.{has_same_text}
use Rattle.u_check.specs.Tables.{TableRows}

pub record JobParts : Type 0 where
  pub program : ProgramParts
  pub argument : ℤ
  pub table : TableRows

abbrev pub job : ProgramParts → ℤ → TableRows → JobParts
job program argument table = record { program = program; argument = argument; table = table }

-- Whether the two jobs run the same program, by its text, on the same argument. What their tables know does
-- not matter.
abbrev pub is_same_job : JobParts → JobParts → Bool
is_same_job = eq_of_both (on (λ (j : JobParts). j.program) has_same_text) (on (λ (j : JobParts). j.argument) int_eq)

-- the two are one job: the same program on the same argument, whatever their tables
pub record IsOneJob (a b : JobParts) : Type 0 where
  pub program : a.program ≡ b.program
  pub argument : a.argument ≡ b.argument
