-- How the nodes of the scopes that have not ended change from node to node.
use Rattle.std.proofs.Common.{◌≡◌, ℕ, zero, suc, Bool, true, false, cond, ◌||◌, List, [], ◌∷◌, length, refl, sym, ◌∙◌, ap}
use Rattle.u_source.specs.declared.form.Node.{Node}
use Rattle.u_scope.specs.declared.entry.Entry.{Entry}
use Rattle.u_scope.specs.Entries.{event_of, opens, closes, stays, entry, kept, left_out, scopes_from, scopes_at, left_behind, stepped}

zero_case : (c o s : Bool) (e : Entry) (xs : List Node) → opens e.event ≡ o → left_behind (scopes_from 0 xs) ≡ scopes_from 1 xs → left_behind (scopes_from 1 xs) ≡ scopes_from 2 xs → left_behind (cond c (scopes_from 1 xs) (cond (o || s) (e ∷ scopes_from 0 xs) (scopes_from 0 xs))) ≡ scopes_from (cond c 2 (cond o 0 1)) xs
zero_case true o s e xs h a b = b
zero_case false true s e xs h a b = ap (λ t. cond t (scopes_from 0 xs) (left_behind (scopes_from 0 xs))) h
zero_case false false true e xs h a b = ap (λ t. cond t (scopes_from 0 xs) (left_behind (scopes_from 0 xs))) h ∙ a
zero_case false false false e xs h a b = a

more_left : (c o : Bool) (k : ℕ) → suc (cond c (suc (suc k)) (cond o k (suc k))) ≡ cond c (suc (suc (suc k))) (cond o (suc k) (suc (suc k)))
more_left true o k = refl
more_left false true k = refl
more_left false false k = refl

-- to leave the scope that began last is to leave out one more
pub left_law : (k : ℕ) (xs : List Node) → left_behind (scopes_from k xs) ≡ scopes_from (suc k) xs
left_law k [] = refl
left_law zero (x ∷ xs) = zero_case (closes (event_of x.form)) (opens (event_of x.form)) (stays (event_of x.form)) (entry (length xs) x) xs refl (left_law 0 xs) (left_law 1 xs)
left_law (suc k) (x ∷ xs) = left_law (left_out (event_of x.form) k) xs ∙ ap (λ n. scopes_from n xs) (more_left (closes (event_of x.form)) (opens (event_of x.form)) k)

-- to go past a node is to add it to those before it
pub step_law : (x : Node) (xs : List Node) → scopes_at (x ∷ xs) ≡ stepped (length xs) x (scopes_at xs)
step_law x xs = ap (λ es. cond (closes (event_of x.form)) es (kept (entry (length xs) x) (scopes_at xs))) (sym (left_law 0 xs))
