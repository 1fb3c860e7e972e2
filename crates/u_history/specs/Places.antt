-- Places: ports of activities, and cells. What stands at a place stands together in a list that rises.
use Rattle.std.specs.Prelude.{◌≡◌, ℕ}
use Rattle.std.specs.Ordering.{ordering_then, nat_cmp}
use Rattle.std.specs.declared.cmp.Ordering.TheVariants.{Less}
use Rattle.u_name.specs.Name.{Activity}
use Rattle.u_name.specs.NameOrder.{name_cmp}
use Rattle.u_name.specs.Cell.{CellOf, cell_cmp}
use Rattle.u_rule.specs.declared.entry.Entry.{Entry}
use Rattle.u_rule.specs.declared.entry.Entry.TheVariants as entries
use Rattle.u_history.specs.declared.place.MeetingPlace.{MeetingPlace}
use Rattle.u_history.specs.declared.place.MeetingPlace.TheVariants.{Port, Cell}

-- the two are values of one port of one activity, or of one cell
abbrev pub AtOnePlace : Entry → Entry → Type 0
AtOnePlace (entries.Token a) (entries.Token b) = (a.activity ≡ b.activity) × (a.port ≡ b.port)
AtOnePlace (entries.Write a) (entries.Write b) = a.cell ≡ b.cell
AtOnePlace a b = ⊥

-- e is in H, and another of H is at its place
abbrev pub IsClashing : (Entry → Type 0) → Entry → Type 0
IsClashing H e = H e × ((f : Entry) × H f × AtOnePlace e f × (e ≡ f → ⊥))

-- the entry is a write of that cell
abbrev pub IsWriteOf : CellOf → Entry → Type 0
IsWriteOf c (entries.Write w) = w.cell ≡ c
IsWriteOf c e = ⊥

-- the entry is a token at that port
abbrev pub IsTokenAt : Activity → ℕ → Entry → Type 0
IsTokenAt n p (entries.Token t) = (t.activity ≡ n) × (t.port ≡ p)
IsTokenAt n p e = ⊥

-- the entry stands at the place
abbrev pub IsAt : MeetingPlace → Entry → Type 0
IsAt (Port n p) e = IsTokenAt n.now p e
IsAt (Cell c) e = IsWriteOf c.now e

-- the entry stands before all that stands at the place
abbrev pub IsBefore : MeetingPlace → Entry → Type 0
IsBefore (Port n p) (entries.Token t) = ordering_then (name_cmp t.activity n.now) (nat_cmp t.port p) ≡ Less
IsBefore (Cell c) (entries.Token t) = Unit {0}
IsBefore (Cell c) (entries.Write w) = cell_cmp w.cell c.now ≡ Less
IsBefore p e = ⊥
