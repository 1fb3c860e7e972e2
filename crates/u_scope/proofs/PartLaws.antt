-- The parts of a node stand before it: what is left of the nodes before it without the last n trees ends with its
-- part behind which n others stand.
use Rattle.std.proofs.Common.{◌≡◌, ℕ, zero, suc, ◌+◌, Bool, true, false, cond, List, [], ◌∷◌, ◌++◌, map, length, take, drop, reverse, Option, Some, None, refl, sym, ◌∙◌, ap, subst, arith}
use Rattle.std.proofs.lemmas.List.{reverse-append, reverse-reverse, length-reverse, drop-drop, take-append-drop}
use Rattle.u_source.specs.declared.form.Node.{Node}
use Rattle.u_source.specs.Trees.{Sort, Procedures, sort_of, children, serves, taken_from, joined, with_node, trees_behind, IsTree}
use Rattle.u_scope.specs.declared.checked.Meaning.{Meaning}
use Rattle.u_scope.specs.declared.kinded.Kinded.{Kinded}
use Rattle.u_scope.specs.Kinds.{without_trees, kinded}

abbrev one_more : Option (List Sort) → Node → Option (List Sort)
one_more None n = None
one_more (Some trees) n = with_node n.form trees

-- the trees that some nodes make, the last one first, as the nodes are
abbrev trees_back : List Node → Option (List Sort)
trees_back [] = Some []
trees_back (x ∷ xs) = one_more (trees_back xs) x

abbrev trees_of : List Kinded → Option (List Sort)
trees_of ks = trees_back (map (λ k. k.node) ks)

nothing_behind : (o : Option (List Sort)) → trees_behind o [] ≡ o
nothing_behind None = refl
nothing_behind (Some trees) = refl

one_behind : (o : Option (List Sort)) (x : Node) → trees_behind o (x ∷ []) ≡ one_more o x
one_behind None x = refl
one_behind (Some trees) x = nothing_behind (with_node x.form trees)

append_behind : (xs ys : List Node) (o : Option (List Sort)) → trees_behind o (xs ++ ys) ≡ trees_behind (trees_behind o xs) ys
append_behind xs ys None = refl
append_behind [] ys (Some trees) = refl
append_behind (x ∷ xs) ys (Some trees) = append_behind xs ys (with_node x.form trees)

-- the trees are those of the nodes in their order
back_law : (xs : List Node) → trees_behind (Some []) (reverse xs) ≡ trees_back xs
back_law [] = refl
back_law (x ∷ xs) =
    ap (λ ys. trees_behind (Some []) ys) (reverse-append (x ∷ []) xs)
    ∙ append_behind (reverse xs) (x ∷ []) (Some [])
    ∙ one_behind (trees_behind (Some []) (reverse xs)) x
    ∙ ap (λ o. one_more o x) (back_law xs)

drop_case : (b : Bool) (o : Option (List Sort)) (rest left : List Sort) → cond b o None ≡ Some rest → (o ≡ Some rest → rest ≡ left) → rest ≡ left
drop_case true o rest left h f = f h
drop_case false o rest left h f = cc

-- what is left when trees are taken
left_law : (ws ts rest : List Sort) → taken_from ws ts ≡ Some rest → rest ≡ drop (length ws) ts
left_law [] ts rest h = let same : ts ≡ rest = cc in sym same
left_law (w ∷ ws) [] rest h = cc
left_law (w ∷ ws) (t ∷ ts) rest h = drop_case (serves t w) (taken_from ws ts) rest (drop (length ws) ts) h (λ g. left_law ws ts rest g)

-- what a node behind some trees leaves
node_law : (x : Node) (ts us : List Sort) (o : Option (List Sort)) → taken_from (reverse (children x.form)) ts ≡ o → joined x.form o ≡ Some us → us ≡ sort_of x.form ∷ drop (length (children x.form)) ts
node_law x ts us None e h = cc
node_law x ts us (Some rest) e h =
    let same : sort_of x.form ∷ rest ≡ us = cc in
    let left : rest ≡ drop (length (children x.form)) ts = left_law (reverse (children x.form)) ts rest e ∙ ap (λ n. drop n ts) (length-reverse (children x.form)) in
    sym same ∙ ap (λ r. sort_of x.form ∷ r) left

more_law : (x : Node) (o : Option (List Sort)) (us : List Sort) → one_more o x ≡ Some us → (ts : List Sort) × (o ≡ Some ts) × (us ≡ sort_of x.form ∷ drop (length (children x.form)) ts)
more_law x None us h = cc
more_law x (Some ts) us h = (ts, refl, node_law x ts us (taken_from (reverse (children x.form)) ts) refl h)

-- without the last n trees the nodes make the other ones
without_law : (n : ℕ) (ks : List Kinded) (ts : List Sort) → trees_of ks ≡ Some ts → trees_of (without_trees n ks) ≡ Some (drop n ts)
without_law zero ks ts h = h
without_law (suc n) [] ts h = let none : [] ≡ ts = cc in subst (λ us. Some [] ≡ Some (drop (suc n) us)) none refl
without_law (suc n) (k ∷ ks) ts h =
    let m = more_law k.node (trees_of ks) ts h in
    let count : length (children k.node.form) + n ≡ n + length (children k.node.form) = omega arith in
    without_law (n + length (children k.node.form)) ks m.0 m.1
    ∙ ap (λ i. Some (drop i m.0)) (sym count)
    ∙ ap (λ us. Some us) (sym (drop-drop n (length (children k.node.form)) m.0))
    ∙ ap (λ us. Some (drop (suc n) us)) (sym m.2)

-- the last of some nodes stands for what may stand where this is wanted
abbrev pub IsPart : Sort → List Kinded → Type 0
IsPart w [] = ⊥
IsPart w (k ∷ ks) = serves (sort_of k.node.form) w ≡ true

part_law : (w : Sort) (ks : List Kinded) (t : Sort) (ts : List Sort) → trees_of ks ≡ Some (t ∷ ts) → serves t w ≡ true → IsPart w ks
part_law w [] t ts h s = cc
part_law w (k ∷ ks) t ts h s =
    let m = more_law k.node (trees_of ks) (t ∷ ts) h in
    let same : t ∷ ts ≡ sort_of k.node.form ∷ drop (length (children k.node.form)) m.0 = m.2 in
    let first : t ≡ sort_of k.node.form = cc in
    subst (λ u. serves u w ≡ true) first s

serve_case : (b : Bool) (o : Option (List Sort)) (rest : List Sort) → cond b o None ≡ Some rest → (b ≡ true) × (o ≡ Some rest)
serve_case true o rest h = (refl, h)
serve_case false o rest h = cc

-- each tree that is taken may stand where it is wanted
served_law : (ws ts rest : List Sort) (n : ℕ) (w : Sort) (more : List Sort) → taken_from ws ts ≡ Some rest → drop n ws ≡ w ∷ more → (t : Sort) × (us : List Sort) × (drop n ts ≡ t ∷ us) × (serves t w ≡ true)
served_law [] ts rest zero w more h d = cc
served_law [] ts rest (suc n) w more h d = cc
served_law (v ∷ ws) [] rest n w more h d = cc
served_law (v ∷ ws) (t ∷ ts) rest zero w more h d =
    let same : v ≡ w = cc in
    (t, ts, refl, subst (λ u. serves t u ≡ true) same (serve_case (serves t v) (taken_from ws ts) rest h).0)
served_law (v ∷ ws) (t ∷ ts) rest (suc n) w more h d = served_law ws ts rest n w more (serve_case (serves t v) (taken_from ws ts) rest h).1 d

joined_case : (x : Node) (o : Option (List Sort)) (us : List Sort) → joined x.form o ≡ Some us → (rest : List Sort) × (o ≡ Some rest)
joined_case x None us h = cc
joined_case x (Some rest) us h = (rest, refl)

node_parts : (x : Node) (ks : List Kinded) (us : List Sort) (o : Option (List Sort)) (n : ℕ) (w : Sort) (more : List Sort) → trees_of ks ≡ o → one_more o x ≡ Some us → drop n (reverse (children x.form)) ≡ w ∷ more → IsPart w (without_trees n ks)
node_parts x ks us None n w more e h d = cc
node_parts x ks us (Some ts) n w more e h d =
    let taken = joined_case x (taken_from (reverse (children x.form)) ts) us h in
    let found = served_law (reverse (children x.form)) ts taken.0 n w more taken.1 d in
    part_law w (without_trees n ks) found.0 found.1 (without_law n ks ts e ∙ ap (λ vs. Some vs) found.2) found.3

kinded_nodes : (ms : List Meaning) (xs : List Node) → map (λ k. k.node) (kinded ms xs) ≡ xs
kinded_nodes ms [] = refl
kinded_nodes ms (x ∷ xs) = ap (λ ys. x ∷ ys) (kinded_nodes ms xs)

some_behind : (o : Option (List Sort)) (rest : List Node) (us : List Sort) → trees_behind o rest ≡ Some us → (vs : List Sort) × (o ≡ Some vs)
some_behind None rest us h = cc
some_behind (Some vs) rest us h = (vs, refl)

none_behind : (o : Option (List Sort)) (x : Node) (rest : List Node) (us : List Sort) → trees_behind o (x ∷ rest) ≡ Some us → (vs : List Sort) × (one_more o x ≡ Some vs)
none_behind None x rest us h = cc
none_behind (Some ts) x rest us h = some_behind (with_node x.form ts) rest us h

-- the part of a node of a source behind which n others stand is there, and of the sort that the node wants
pub parts_are_children : (ms : List Meaning) (nodes rest : List Node) (x : Node) (i n : ℕ) (w : Sort) (more : List Sort) → IsTree nodes → drop i nodes ≡ x ∷ rest → drop n (reverse (children x.form)) ≡ w ∷ more → IsPart w (without_trees n (kinded ms (reverse (take i nodes))))
parts_are_children ms nodes rest x i n w more tree h d =
    let split : take i nodes ++ x ∷ rest ≡ nodes = ap (λ ys. take i nodes ++ ys) (sym h) ∙ take-append-drop i nodes in
    let whole : trees_behind (trees_behind (Some []) (take i nodes)) (x ∷ rest) ≡ Some (Procedures ∷ []) = sym (append_behind (take i nodes) (x ∷ rest) (Some [])) ∙ ap (λ ys. trees_behind (Some []) ys) split ∙ tree in
    let there = none_behind (trees_behind (Some []) (take i nodes)) x rest (Procedures ∷ []) whole in
    let back : trees_of (kinded ms (reverse (take i nodes))) ≡ trees_behind (Some []) (take i nodes) = ap (λ xs. trees_back xs) (kinded_nodes ms (reverse (take i nodes))) ∙ sym (back_law (reverse (take i nodes))) ∙ ap (λ xs. trees_behind (Some []) xs) (reverse-reverse (take i nodes)) in
    node_parts x (kinded ms (reverse (take i nodes))) there.0 (trees_behind (Some []) (take i nodes)) n w more back there.1 d
