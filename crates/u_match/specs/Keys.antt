-- Where entries meet: tokens at the ports of an activity, and reads with writes at a cell.
use Rattle.std.specs.Prelude.{◌≡◌, ◌<◌, ◌+◌, ℕ, List, ◌∷◌, [], ◌⊎◌, map, Contains, Ok, ⊤}
use Rattle.std.specs.Borrow.{Bor}
use Rattle.u_name.specs.Name.{Activity}
use Rattle.u_name.specs.Cell.{CellOf}
use Rattle.u_value.specs.declared.value.Value.{Value}
use Rattle.u_rule.specs.Parts.{TokenParts, token, ValueList}
use Rattle.u_rule.specs.Structures.{cell_named}
use Rattle.u_sets.specs.Members.{IsWith, AreThose}
use Rattle.u_rule.specs.declared.entry.Entry.{Entry}
use Rattle.u_rule.specs.declared.entry.Entry.TheVariants as entries
use Rattle.u_history.specs.Outcomes.{ValueAt}
use Rattle.u_match.specs.declared.meeting.Read.{Read}

abbrev pub read : Activity → Value → Value → Read
read activity structure index = record { activity = activity; structure = structure; index = index }

-- the reads that wait, by their cells
abbrev pub ReadTable : Type 0
ReadTable = List (CellOf × Read)

-- at its own port a token meets its own value, and at another port of its activity each value of H there
abbrev pub IsMet : (Entry → Type 0) → TokenParts → ℕ → Value → Type 0
IsMet H t p v = ((t.port ≡ p) × (t.value ≡ v)) ⊎ ((t.port ≡ p → ⊥) × ValueAt H t.activity p v)

-- the lists that references point to
abbrev pub lent_lists : List (Bor ValueList) → List ValueList
lent_lists lists = map (λ (l : Bor ValueList). l.now) lists

-- each list has what the token meets at a port, the first of them at that one, and so on
abbrev pub AreMetFrom : (Entry → Type 0) → TokenParts → ℕ → List ValueList → Type 0
AreMetFrom H t p [] = ⊤
AreMetFrom H t p (l ∷ lists) = AreThose (IsMet H t p) l × AreMetFrom H t (p + 1) lists

-- where the two values name a cell, the activity's read of it is in the table
abbrev pub Notes : Activity → Value → Value → ReadTable → Type 0
Notes a v w reads = (c : CellOf) → cell_named (v ∷ w ∷ []) ≡ Ok c → Contains reads (c, read a v w)

-- no two values name a cell of which the token has one, unless it lies beyond the second port
abbrev pub NamesNone : TokenParts → Type 0
NamesNone t = (v w : Value) (c : CellOf) → cell_named (v ∷ w ∷ []) ≡ Ok c → (t.port ≡ 1 → t.value ≡ v) → (t.port ≡ 2 → t.value ≡ w) → 2 < t.port

-- For each two tokens of the entries at the first two ports of an activity that name a cell, the table
-- has the read of it. It may have more.
abbrev pub IsComplete : ReadTable → List Entry → Type 0
IsComplete reads es =
    (a : Activity) (v w : Value) → Contains es (entries.Token (token a 1 v)) → Contains es (entries.Token (token a 2 w)) → Notes a v w reads

-- what is complete is complete with the entry besides
abbrev pub IsCompleteWith : ReadTable → List Entry → Entry → ReadTable → Type 0
IsCompleteWith old es entry new = (with : List Entry) → IsComplete old es → IsWith es entry with → IsComplete new with
