-- The reader of firings, which reads a firing's line, its text with a newline behind it; and what
-- reading a firing answers.
use Rattle.std.specs.Prelude.{ℕ, ◌-◌, ◌⊎◌, zero, suc, List, [], ◌∷◌, ◌++◌, length, Option, Some, None}
use Rattle.std.proofs.Common.{inl, inr}
use Rattle.u_name.specs.Name.{Activity, IsName}
use Rattle.u_name.specs.NameReader.{name_steps}
use Rattle.u_base.specs.Reader.{Reader}
use Rattle.u_base.specs.Parts.{empty, lead}
use Rattle.u_base.specs.Then.{both}
use Rattle.u_base.specs.Choice.{mapped, choice}
use Rattle.u_base.specs.Fixed.{fixed}
use Rattle.u_base.specs.TextAt.{IsTextOf, IsNoText}
use Rattle.u_value.specs.Reading.{IsValue, value_at}
use Rattle.u_value.specs.declared.value.Value.{Value}
use Rattle.u_rule.specs.Parts.{most_ports, IsValueList}
use Rattle.u_rule.specs.EntryOrder.{firing, written}
use Rattle.u_rule.specs.FiringText.{firing_text}
use Rattle.u_rule.specs.declared.firing.Firing.{Firing}
use Rattle.u_rule.specs.declared.parts.Written.{Written}
use Rattle.u_rule.specs.declared.firing_reading.Next.{Next}
use Rattle.u_rule.specs.declared.firing_reading.Next.TheVariants.{End, Another}
use Rattle.u_rule.specs.declared.reading.TextError.{TextError}
use Rattle.u_rule.specs.declared.reading.TextError.TheVariants.{BadText, NoMemory}

abbrev pub AreValues : List Value → Type 0
AreValues [] = Unit {0}
AreValues (v ∷ vs) = IsValue v × AreValues vs

abbrev pub IsWritten : Option Written → Type 0
IsWritten None = Unit {0}
IsWritten (Some w) = IsName w.writer × IsValue w.value

-- the parts of a firing are in their ranges
abbrev pub IsFiring : Firing → Type 0
IsFiring f = IsName f.activity × IsValueList f.values × AreValues f.values × IsWritten f.write

-- the bytes and a newline behind them
abbrev pub line : List ℕ → List ℕ
line bs = bs ++ (10 ∷ [])

-- what is read behind ` b`
abbrev pub By : Type 0
By = Activity × (Value × Unit {0})

-- ` VALUE` and the newline
abbrev pub last_value : Reader (Value × Unit {0})
last_value = lead 32 (both value_at (λ _. fixed (10 ∷ [])))

-- behind ` b`: `y WRITER VALUE` and the newline
abbrev pub by_at : Reader By
by_at = lead 121 (lead 32 (both name_steps (λ _. last_value)))

-- what is read behind a value, where so many more may come
abbrev pub Tail : ℕ → Type 0
Tail zero = Unit {0} ⊎ By
Tail (suc k) = Unit {0} ⊎ (By ⊎ (Value × Tail k))

-- the newline, the write, or a value and what is behind it
unfoldable pub tail_at : (k : ℕ) → Reader (Tail k)
tail_at zero = choice 10 (empty tt) (lead 32 (lead 98 by_at))
tail_at (suc k) = choice 10 (empty tt) (lead 32 (choice 98 by_at (both value_at (λ _. tail_at k))))

abbrev pub written_by : By → Option Written
written_by b = Some (written b.0 b.1.0)

abbrev pub values_of : (k : ℕ) → Tail k → List Value
values_of zero t = []
values_of (suc k) t = elim t [ inl _ ↦ [] | inr y ↦ elim y [ inl _ ↦ [] | inr p ↦ p.0 ∷ values_of k p.1 ] ]

abbrev pub write_in : (k : ℕ) → Tail k → Option Written
write_in zero t = elim t [ inl _ ↦ None | inr b ↦ written_by b ]
write_in (suc k) t = elim t [ inl _ ↦ None | inr y ↦ elim y [ inl b ↦ written_by b | inr p ↦ write_in k p.1 ] ]

-- so many values may come behind the first
abbrev pub more_values : ℕ
more_values = most_ports - 1

-- a value, and what is behind it
abbrev pub values_at : Reader (Value × Tail more_values)
values_at = lead 32 (both value_at (λ _. tail_at more_values))

abbrev pub firing_of : Activity × (Value × Tail more_values) → Firing
firing_of t = firing t.0 (t.1.0 ∷ values_of more_values t.1.1) (write_in more_values t.1.1)

-- `f NAME`
abbrev pub activity_at : Reader Activity
activity_at = lead 102 (lead 32 name_steps)

-- `f NAME VALUE..`, the write, and the newline
unfoldable pub firing_at : Reader Firing
firing_at = mapped firing_of (lead 102 (lead 32 (both name_steps (λ _. values_at))))

-- how the code reads them: what stands behind a value where more may come, by its first bytes

abbrev pub written_next : By → Next
written_next b = End (written_by b)

abbrev pub next_value : Reader Next
next_value = mapped (λ v. Another v) value_at

-- behind a space: a write, or a value
abbrev pub behind_space : Reader Next
behind_space = mapped (elim [ inl b ↦ written_next b | inr v ↦ Another v ]) (choice 98 by_at value_at)

-- the newline, or a space and what is behind it
unfoldable pub next_at : Reader Next
next_at = mapped (elim [ inl _ ↦ End None | inr n ↦ n ]) (choice {X = Unit {0}} {Y = Next} 10 (empty tt) (lead 32 behind_space))

-- ` by WRITER VALUE` and the newline
abbrev pub spaced_by : Reader By
spaced_by = lead 32 (lead 98 by_at)

abbrev pub last_write : Reader (Option Written)
last_write = mapped written_by spaced_by

-- what stands at the end, where no more values may come
unfoldable pub end_at : Reader (Option Written)
end_at = mapped (write_in 0) (tail_at 0)

-- the firing whose name and first values are read
-- where so many more may come
abbrev pub behind_values : ℕ → Activity → List Value → Reader Firing
behind_values k name vs = mapped (λ t. firing name (vs ++ values_of k t) (write_in k t)) (tail_at k)

unfoldable pub firing_behind : Activity → List Value → Reader Firing
firing_behind name vs = behind_values (most_ports - length vs) name vs

-- the firing whose name is read
unfoldable pub behind_name : Activity → Reader Firing
behind_name name = mapped (λ t. firing name (t.0 ∷ values_of more_values t.1) (write_in more_values t.1)) values_at

-- what reading a firing answers

abbrev pub IsFiringOf : List ℕ → Firing → Type 0
IsFiringOf = IsTextOf firing_text IsFiring

-- the bytes are no firing's text, and k is where the longest front of one ends; or a growth was refused
abbrev pub IsFiringErrorOf : List ℕ → TextError → Type 0
IsFiringErrorOf bytes (BadText k) = IsNoText firing_text IsFiring bytes k
IsFiringErrorOf bytes NoMemory = Unit {0}
