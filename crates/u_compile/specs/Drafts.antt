-- Statements under construction.
use Rattle.std.specs.Prelude.{ℕ}
use Rattle.u_program.specs.declared.program.Kind.{Kind}

-- a statement: its region, what it does, and the number of the statement whose links are its links
pub record DraftParts : Type 0 where
  pub region : ℕ
  pub kind : Kind
  pub shares : ℕ

abbrev pub draft : ℕ → Kind → ℕ → DraftParts
draft region kind shares = record { region = region; kind = kind; shares = shares }
