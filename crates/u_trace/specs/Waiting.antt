-- Activities that wait: they have a token at some port, and none at another.
use Rattle.std.specs.Prelude.{◌≡◌, ℕ, ◌↔◌, IsTrue, List, Some}
use Rattle.u_name.specs.Context.{IsBetween}
use Rattle.u_name.specs.Name.{Activity}
use Rattle.u_value.specs.declared.value.Value.{Value}
use Rattle.u_program.specs.Parts.{BlockParts, StatementParts}
use Rattle.u_check.specs.Kinds.{ports_of}
use Rattle.u_rule.specs.Fits.{statement_of}
use Rattle.u_rule.specs.declared.entry.Entry.{Entry}
use Rattle.u_history.specs.Outcomes.{ValueAt}
use Rattle.u_trace.specs.Ports.{has_port}
use Rattle.u_trace.specs.declared.activities.WaitingActivity.{WaitingActivity}

-- H has a token at that port of the activity
abbrev pub HasToken : (Entry → Type 0) → Activity → ℕ → Type 0
HasToken H a k = (v : Value) × ValueAt H a k v

-- the activity has a port of that number: its statement has, and the program has its statement
abbrev pub IsPortOf : List BlockParts → Activity → ℕ → Type 0
IsPortOf p a k = (s : StatementParts) × (statement_of p a.block a.statement ≡ Some s) × IsBetween 1 k (ports_of s.kind)

-- w is an activity that waits, with all of its ports that have a token and all that lack one
pub record IsWaiting (p : List BlockParts) (H : Entry → Type 0) (w : WaitingActivity) : Type 0 where
  pub has : (k : ℕ) → IsTrue (has_port w.has k) ↔ (IsPortOf p w.activity k × HasToken H w.activity k)
  pub lacks : (k : ℕ) → IsTrue (has_port w.lacks k) ↔ (IsPortOf p w.activity k × (HasToken H w.activity k → ⊥))
  pub filled : (k : ℕ) × IsTrue (has_port w.has k)
  pub missing : (k : ℕ) × IsTrue (has_port w.lacks k)
