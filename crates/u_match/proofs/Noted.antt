-- What the table has once an entry was noted.
use Rattle.std.proofs.Common.{◌≡◌, ◌↔◌, inr, subst, refl, [], ◌∷◌, Contains, Option, Some, None, Ok}
use Rattle.u_name.specs.Name.{Activity}
use Rattle.u_name.specs.Cell.{CellOf}
use Rattle.u_value.specs.declared.value.Value.{Value}
use Rattle.u_rule.specs.Structures.{cell_named}
use Rattle.u_base.specs.Firing.{Within}
use Rattle.u_sets.specs.Members.{IsWith}
use Rattle.u_match.specs.declared.meeting.Read.{Read}
use Rattle.u_match.specs.Keys.{ReadTable, read, Notes}

-- nothing is lost in one step, or in two
pub keeps_itself : (reads : ReadTable) → Within (Contains reads) reads
keeps_itself reads x m = m

pub keeps_both : (a b c : ReadTable) → Within (Contains b) a → Within (Contains c) b → Within (Contains c) a
keeps_both a b c p q x m = q x (p x m)

-- where the values name no cell there is nothing to note
pub notes_none : (a : Activity) (v w : Value) (o : Option CellOf) (reads : ReadTable) → o ≡ None → ((c : CellOf) → (o ≡ Some c) ↔ (cell_named (v ∷ w ∷ []) ≡ Ok c)) → Notes a v w reads
notes_none a v w o reads n named c e = let h = (named c).1 e in absurd (cc)

pub notes_one : (a : Activity) (v w : Value) (o : Option CellOf) (cell : CellOf) (r : Read) (old reads : ReadTable) → o ≡ Some cell → ((c : CellOf) → (o ≡ Some c) ↔ (cell_named (v ∷ w ∷ []) ≡ Ok c)) → r ≡ read a v w → IsWith old (cell, r) reads → Notes a v w reads
notes_one a v w o cell r old reads is named e with c h = subst (λ (x : CellOf). Contains reads (x, read a v w)) same (subst (λ (x : Read). Contains reads (cell, x)) e ((with (cell, r)).1 (inr refl)))
  where
    same : cell ≡ c
    same = let g = (named c).1 h in cc

-- what is noted stays so
pub notes_still : (a : Activity) (v w : Value) (old new : ReadTable) → Within (Contains new) old → Notes a v w old → Notes a v w new
notes_still a v w old new k n c e = k (c, read a v w) (n c e)
