-- What is to blame for two values at a port.
--
-- In a strict or a determinate program a port has two values only if a cell was written twice, and so
-- it is in each run of it. The stories of the two values, joined, are such a run, and a short one: the
-- cell is looked for there.
use Rattle.std.specs.Prelude.{◌≡◌, ℕ, ◌<◌, length, List, ◌∷◌, ◌++◌, ◌⊎◌, Option, Some, None, IsSome, Result, Ok, Err}
use Rattle.std.specs.declared.cmp.Ordering.{Ordering}
use Rattle.std.specs.declared.cmp.Ordering.TheVariants.{Less}
use Rattle.u_base.specs.Firing.{System, Held, Derivation}
use Rattle.u_sets.specs.Rising.{IsListOf}
use Rattle.u_name.specs.Name.{Activity}
use Rattle.u_name.specs.Cell.{CellOf, cell_cmp}
use Rattle.u_value.specs.declared.value.Value.{Value}
use Rattle.u_check.specs.Jobs.{JobParts}
use Rattle.u_determinate.specs.Strict.{IsStrict}
use Rattle.u_determinate.specs.Determinate.{IsDeterminate}
use Rattle.u_rule.specs.Parts.{token}
use Rattle.u_rule.specs.Rule.{own_of}
use Rattle.u_rule.specs.EntryOrder.{write_of}
use Rattle.u_rule.specs.declared.entry.Entry.{Entry}
use Rattle.u_rule.specs.declared.entry.Entry.TheVariants as entries
use Rattle.u_rule.specs.declared.firing.Firing.{Firing}
use Rattle.u_history.specs.Orders.{value_order, written_order}
use Rattle.u_history.specs.Outcomes.{PairIn, ValueAt, HasTwo}
use Rattle.u_machine.specs.State.{State}
use Rattle.u_trace.specs.Stories.{IsStory, GivesFirst}
use Rattle.u_trace.specs.declared.blamed.Blame.{Blame}
use Rattle.u_trace.specs.declared.blamed.BlamedWrite.{BlamedWrite}
use Rattle.u_trace.specs.declared.blame_error.BlameError.{BlameError}
use Rattle.u_trace.specs.declared.blame_error.BlameError.TheVariants.{NotClashed, NoMemory}

-- x and y stand first in the list, in order, of all that have P
pub record AreTwoLeast {X : Type 0} (R : X → X → Ordering) (P : X → Type 0) (x y : X) : Type 0 where
  pub others : List X
  pub list : IsListOf R P (x ∷ y ∷ others)

-- v and w are the two least values at the port, of those that the firings hold
abbrev pub AreLeastValues : JobParts → List Firing → Activity → ℕ → Value → Value → Type 0
AreLeastValues job log n p v w = AreTwoLeast value_order (ValueAt (Held (own_of job) log) n p) v w

-- the tokens of v and w at the port
abbrev pub AreTokensOf : Activity → ℕ → Value → Value → Entry × Entry → Type 0
AreTokensOf n p v w q = (q.0 ≡ entries.Token (token n p v)) × (q.1 ≡ entries.Token (token n p w))

-- the tokens of the first two values of the list; or it has fewer
abbrev pub AreFirstTokens : Activity → ℕ → List Value → Option (Entry × Entry) → Type 0
AreFirstTokens n p vs None = length vs < 2
AreFirstTokens n p vs (Some q) = (v : Value) × (w : Value) × (rest : List Value) × (vs ≡ v ∷ w ∷ rest) × AreTokensOf n p v w q

-- the tokens of the two least values; or the firings do not hold two
abbrev pub AreLeastTokens : JobParts → List Firing → Activity → ℕ → Option (Entry × Entry) → Type 0
AreLeastTokens job log n p None = HasTwo (ValueAt (Held (own_of job) log) n p) → ⊥
AreLeastTokens job log n p (Some q) = (v : Value) × (w : Value) × AreLeastValues job log n p v w × AreTokensOf n p v w q

-- The story of a, and that of b behind it. They are a run of their own, which has both entries.
pub record JoinsStories {E F : Type 0} (s : System E F) (log : List F) (a b : E) (joined : List F) : Type 0 where
  pub front : List F
  pub behind : List F
  pub is : joined ≡ front ++ behind
  pub is_front : IsStory s log a front
  pub is_behind : IsStory s log b behind
  pub derivation : Derivation s joined
  pub has_one : Held s joined a
  pub has_other : Held s joined b

-- the cell is the least that has two pairs of a writer and a value in H
pub record IsLeastTwice (H : Entry → Type 0) (cell : CellOf) : Type 0 where
  pub twice : HasTwo (PairIn H cell)
  pub least : (c : CellOf) → HasTwo (PairIn H c) → (c ≡ cell) ⊎ (cell_cmp cell c ≡ Less)

-- its firing is the first of these that gives its write in the cell
abbrev pub IsWriteIn : JobParts → List Firing → CellOf → BlamedWrite → Type 0
IsWriteIn job fs cell w = GivesFirst (own_of job) fs (entries.Write (write_of cell w.pair.writer w.pair.value)) w.firing

-- b has the two least pairs of the cell among what the firings give, each with its firing
pub record HasWritesOf (job : JobParts) (fs : List Firing) (cell : CellOf) (b : Blame) : Type 0 where
  pub cell_is : b.cell ≡ cell
  pub pairs : AreTwoLeast written_order (PairIn (Held (own_of job) fs) cell) b.first.pair b.second.pair
  pub first : IsWriteIn job fs cell b.first
  pub second : IsWriteIn job fs cell b.second

-- the least cell with two pairs among what the firings give, and its two least pairs; or there is none
abbrev pub BlameAmong : JobParts → List Firing → Option Blame → Type 0
BlameAmong job fs None = (c : CellOf) → HasTwo (PairIn (Held (own_of job) fs) c) → ⊥
BlameAmong job fs (Some b) = IsLeastTwice (Held (own_of job) fs) b.cell × HasWritesOf job fs b.cell b

-- what is found among the joined stories of a and b
pub record IsFoundAmong (job : JobParts) (log : List Firing) (a b : Entry) (found : Option Blame) : Type 0 where
  pub joined : List Firing
  pub joins : JoinsStories (own_of job) log a b joined
  pub among : BlameAmong job joined found

-- what is found for the two least values at the port
pub record IsFoundAt (job : JobParts) (log : List Firing) (n : Activity) (p : ℕ) (found : Option Blame) : Type 0 where
  pub one : Value
  pub other : Value
  pub least : AreLeastValues job log n p one other
  pub stories : IsFoundAmong job log (entries.Token (token n p one)) (entries.Token (token n p other)) found

-- the firings do not hold two values at the port; or there is no memory
abbrev pub IsNotBlamed : JobParts → List Firing → Activity → ℕ → BlameError → Type 0
IsNotBlamed job log n p NotClashed = HasTwo (ValueAt (Held (own_of job) log) n p) → ⊥
IsNotBlamed job log n p NoMemory = Unit {0}

abbrev pub BlameOf : JobParts → List Firing → Activity → ℕ → Result (Option Blame) BlameError → Type 0
BlameOf job log n p (Ok found) = IsFoundAt job log n p found
BlameOf job log n p (Err error) = IsNotBlamed job log n p error

-- of the applied firings of m
abbrev pub BlameAnswer : State → Activity → ℕ → Result (Option Blame) BlameError → Type 0
BlameAnswer m n p answer = BlameOf m.job m.log n p answer

-- a cell is always blamed where the program is strict or determinate
abbrev pub BlamesByWrites : JobParts → Option Blame → Type 0
BlamesByWrites job found =
    (IsStrict job.program.blocks ⊎ IsDeterminate job.program.blocks) → IsSome found
