-- Determinacy: what a history has twice, it has from two writes of one cell.
--
-- Two values at a port and two answers are clashes. In the runs of a strict or a determinate job there
-- are none, unless some cell is written twice.
use Rattle.std.specs.Prelude.{◌≡◌, ℕ, List, ◌⊎◌}
use Rattle.u_base.specs.Firing.{Held, Derivation, Whole}
use Rattle.u_name.specs.Name.{Activity}
use Rattle.u_name.specs.Cell.{CellOf}
use Rattle.u_value.specs.declared.value.Value.{Value}
use Rattle.u_check.specs.Jobs.{JobParts}
use Rattle.u_rule.specs.Parts.{token}
use Rattle.u_rule.specs.Rule.{system_of}
use Rattle.u_rule.specs.Structures.{wrote}
use Rattle.u_rule.specs.declared.entry.Entry.{Entry}
use Rattle.u_rule.specs.declared.entry.Entry.TheVariants as entries
use Rattle.u_rule.specs.declared.firing.Firing.{Firing}

-- two values at one port of one activity
pub record TwoValues (H : Entry → Type 0) : Type 0 where
  pub activity : Activity
  pub port : ℕ
  pub one : Value
  pub other : Value
  pub has_one : H (entries.Token (token activity port one))
  pub has_other : H (entries.Token (token activity port other))
  pub differ : one ≡ other → ⊥

-- two writes of one cell: by two writers, or of two values
pub record TwoWrites (H : Entry → Type 0) : Type 0 where
  pub cell : CellOf
  pub one_writer : Activity
  pub one : Value
  pub other_writer : Activity
  pub other : Value
  pub has_one : H (wrote cell one_writer one)
  pub has_other : H (wrote cell other_writer other)
  pub differ : (one_writer ≡ other_writer) × (one ≡ other) → ⊥

-- one answer at most, or two writes of one cell
abbrev pub OneAnswer : (Entry → Type 0) → Type 0
OneAnswer H =
    (v u : Value) → H (entries.Answer v) → H (entries.Answer u) → (v ≡ u) ⊎ TwoWrites H

-- The history has two values at a port, or two answers, only where it has two writes of one cell.
pub record OnlyWritesClash (H : Entry → Type 0) : Type 0 where
  pub values : TwoValues H → TwoWrites H
  pub answers : OneAnswer H

-- So has what each run of the job holds, and the whole history.
pub record IsDeterminateJob (job : JobParts) : Type 0 where
  pub runs : (fs : List Firing) → Derivation (system_of job) fs →
      OnlyWritesClash (Held (system_of job) fs)
  pub whole : OnlyWritesClash (Whole (system_of job))
