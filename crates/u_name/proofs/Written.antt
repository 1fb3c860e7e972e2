-- The parts that are pushed, one behind another, are the texts of contexts, names and cells.
use Rattle.std.proofs.Common.{◌≡◌, ℕ, List, [], ◌∷◌, ◌++◌, append_assoc}
use Rattle.std.specs.Fmt.{decimal}
use Rattle.u_name.specs.Context.{Tree, Top, InLoop, InCall}
use Rattle.u_name.specs.NameText.{context_text, name_text, loop_part, call_part}
use Rattle.u_name.specs.Name.{Activity}
use Rattle.u_name.specs.Cell.{CellOf, cell_text}

pub loop_more : (xs block : List ℕ) (number initiation : ℕ) → (((xs ++ (46 ∷ block)) ++ (46 ∷ [])) ++ (76 ∷ decimal number)) ++ (46 ∷ decimal initiation) ≡ xs ++ loop_part block number initiation
loop_more xs block number initiation = simp append_assoc

pub call_more : (xs block : List ℕ) (statement initiation : ℕ) → ((xs ++ (46 ∷ block)) ++ (46 ∷ decimal statement)) ++ (46 ∷ decimal initiation) ≡ xs ++ call_part block statement initiation
call_more xs block statement initiation = simp append_assoc

pub in_loop_more : (xs : List ℕ) (outer : Tree) (block : List ℕ) (number initiation : ℕ) → (((xs ++ (40 ∷ [])) ++ context_text outer) ++ loop_part block number initiation) ++ (41 ∷ []) ≡ xs ++ context_text (InLoop outer block number initiation)
unfolding context_text
in_loop_more xs outer block number initiation = simp append_assoc

pub in_call_more : (xs : List ℕ) (outer : Tree) (block : List ℕ) (statement initiation : ℕ) → (((xs ++ (40 ∷ [])) ++ context_text outer) ++ call_part block statement initiation) ++ (41 ∷ []) ≡ xs ++ context_text (InCall outer block statement initiation)
unfolding context_text
in_call_more xs outer block statement initiation = simp append_assoc

pub root_text : (xs : List ℕ) → xs ++ (45 ∷ []) ≡ xs ++ context_text Top
unfolding context_text
root_text xs = cc

pub name_more : (xs : List ℕ) (n : Activity) → (xs ++ context_text n.context) ++ call_part n.block n.statement n.initiation ≡ xs ++ name_text n
unfolding name_text
name_more xs n = simp append_assoc

pub cell_more : (xs : List ℕ) (c : CellOf) → ((xs ++ name_text c.name) ++ (91 ∷ decimal c.index)) ++ (93 ∷ []) ≡ xs ++ cell_text c
unfolding cell_text
cell_more xs c = simp append_assoc
