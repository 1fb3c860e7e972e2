-- Lists of events as texts, an event a line. An event that hands bytes to a replica has no line.
use Rattle.std.specs.Prelude.{◌≡◌, ℕ, ◌+◌, ◌^◌, ◌<◌, ◌≤◌, List, [], ◌∷◌, ◌++◌, codes, length, Result, Ok, Err}
use Rattle.std.specs.Fmt.{decimal}
use Rattle.u_base.specs.Pieces.{IsCutInto}
use Rattle.u_base.specs.Spaced.{ended}
use Rattle.u_rule.specs.FiringReading.{IsFiringOf}
use Rattle.u_rule.specs.declared.firing.Firing.{Firing}
use Rattle.u_world.specs.declared.event.Event.{Event}
use Rattle.u_world.specs.declared.event.Event.TheVariants as events
use Rattle.u_world.specs.declared.script.ScriptError.{ScriptError}
use Rattle.u_world.specs.declared.script.ScriptError.TheVariants as errors

-- a replica's number
abbrev pub IsReplica : ℕ → Type 0
IsReplica r = (1 ≤ r) × (r ≤ 8)

-- a number of 64 bits
abbrev pub IsLong : ℕ → Type 0
IsLong n = n < 2 ^ 64

-- the firing's text behind the word for taking
abbrev pub IsTaking : List ℕ → Firing → Type 0
IsTaking t f = (text : List ℕ) × IsFiringOf text f × (t ≡ codes " takes " ++ text)

-- what stands behind the number of the replica in the line of its event
abbrev pub IsDeedOf : ℕ → List ℕ → Event → Type 0
IsDeedOf r t (events.Fire q pick) = (q ≡ r) × IsLong pick × (t ≡ codes " fires " ++ decimal pick)
IsDeedOf r t (events.Take q f) = (q ≡ r) × IsTaking t f
IsDeedOf r t (events.Ask q asked) = (q ≡ r) × IsReplica asked × (t ≡ codes " asks " ++ decimal asked)
IsDeedOf r t (events.Merge q other) = (q ≡ r) × IsReplica other × (t ≡ codes " merges " ++ decimal other)
IsDeedOf r t (events.Save q) = (q ≡ r) × (t ≡ codes " saves")
IsDeedOf r t (events.Restart q keep) = (q ≡ r) × IsLong keep × (t ≡ codes " restarts " ++ decimal keep)
IsDeedOf r t (events.Deliver m) = ⊥
IsDeedOf r t (events.Bytes q bs) = ⊥

-- the event's line, without its newline
abbrev pub IsLineOf : List ℕ → Event → Type 0
IsLineOf l (events.Deliver m) = IsLong m × (l ≡ codes "deliver " ++ decimal m)
IsLineOf l e = (r : ℕ) × (t : List ℕ) × IsReplica r × (l ≡ decimal r ++ t) × IsDeedOf r t e

-- the lines are those of the events, one after another
abbrev pub AreLinesOf : List (List ℕ) → List Event → Type 0
AreLinesOf [] [] = Unit {0}
AreLinesOf [] (e ∷ es) = ⊥
AreLinesOf (l ∷ ls) [] = ⊥
AreLinesOf (l ∷ ls) (e ∷ es) = IsLineOf l e × AreLinesOf ls es

-- the bytes are the lines of the events, each with a newline behind it
pub record IsScriptOf (bytes : List ℕ) (es : List Event) : Type 0 where
  pub lines : List (List ℕ)
  pub are : AreLinesOf lines es
  pub is : bytes ≡ ended lines

-- the lines before line n are those of events, and what follows them begins with no event's line
pub record IsBadLine (bytes : List ℕ) (n : ℕ) : Type 0 where
  pub lines : List (List ℕ)
  pub before : List Event
  pub are : AreLinesOf lines before
  pub count : length before + 1 ≡ n
  pub rest : List ℕ
  pub is : bytes ≡ ended lines ++ rest
  pub more : rest ≡ [] → ⊥
  pub bad : (l others : List ℕ) (e : Event) → IsCutInto 10 rest l others → IsLineOf l e → ⊥

-- why the bytes are no script
abbrev pub IsScriptErrorOf : List ℕ → ScriptError → Type 0
IsScriptErrorOf bytes (errors.BadLine n) = IsBadLine bytes n
IsScriptErrorOf bytes errors.NoMemory = Unit {0}
