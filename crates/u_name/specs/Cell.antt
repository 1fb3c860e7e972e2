-- Cells of structures: the name of the structure's maker, and an index.
use Rattle.std.specs.Prelude.{ℕ, ◌≤◌, List, [], ◌∷◌, ◌++◌, refl}
use Rattle.std.specs.Coded.{Coded, code_by, coded×, coded_ℕ}
use Rattle.std.specs.Fmt.{decimal}
use Rattle.std.specs.Ordering.{ordering_then, nat_cmp}
use Rattle.std.specs.declared.cmp.Ordering.{Ordering}
use Rattle.u_name.specs.Name.{Activity, activity_code}
use Rattle.u_name.specs.NameOrder.{name_cmp}
use Rattle.u_name.specs.NameText.{name_text}

pub record CellOf : Type 0 where
  pub name : Activity
  pub index : ℕ

abbrev pub cell_of : Activity → ℕ → CellOf
cell_of name index = record { name = name; index = index }

pub record IsCell (c : CellOf) : Type 0 where
  pub within : c.index ≤ 999999

-- a cell is stored as the pair of its parts
abbrev pub cell_code : Coded CellOf
cell_code = code_by (Activity × ℕ) (coded× activity_code coded_ℕ) (λ c. (c.name, c.index)) (λ t. cell_of t.0 t.1) (λ _. refl)

-- by name, and then by index
abbrev pub cell_cmp : CellOf → CellOf → Ordering
cell_cmp a b = ordering_then (name_cmp a.name b.name) (nat_cmp a.index b.index)

-- `n[i]`
unfoldable pub cell_text : CellOf → List ℕ
cell_text c = name_text c.name ++ (91 ∷ (decimal c.index ++ (93 ∷ [])))
