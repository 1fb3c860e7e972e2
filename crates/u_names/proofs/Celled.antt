-- Pairs of a cell and a value, as spots and the names of structures give them.
use Rattle.std.proofs.Common.{◌≡◌, ◌↔◌, ◌⊎◌, inl, inr, ℕ, ◌+◌, ◌<◌, ◌≤◌, List, [], ◌∷◌, ◌++◌, map, take, Contains, length, get_or, Some, subst, sym, ap, ◌∙◌, refl, arith}
use Rattle.std.specs.Prelude.{slice_get}
use Rattle.std.specs.Borrow.{Bor}
use Rattle.std.specs.Map.Iter.{deref_pair}
use Rattle.std.proofs.lemmas.List.{take_more, take_all}
use Rattle.u_base.specs.Firing.{Distinct}
use Rattle.u_base.proofs.Member.{Contains-head, Contains-tail}
use Rattle.u_name.specs.Name.{Activity}
use Rattle.u_name.specs.Cell.{CellOf, cell_of}
use Rattle.u_sets.specs.Members.{GoesLast, IsWith}
use Rattle.u_sets.specs.Pairs.{HasAnother}
use Rattle.u_names.specs.Spots.{SpotParts, spot}
use Rattle.u_names.specs.CellPairs.{no_name, cell_at, pair_at, pairs_at, HaveStructures, ArePairs, deref_at_cell}
use Rattle.u_names.proofs.OneNumber.{one_place}
use Rattle.u_names.proofs.Mapped.{get_is, get_at, below_at, there_at, stays_at, no_shorter, given, given_back, given_last, given_distinct, member_in}

-- a cell is that of its spot
pub cell_back : (names : List Activity) (k : ℕ) (c : CellOf) → slice_get names k ≡ Some c.name → cell_at names (spot k c.index) ≡ c
cell_back names k c e = ap (λ (a : Activity). cell_of a c.index) (get_at names k no_name c.name e)

module _ (names : List Activity) (apart : Distinct names) where
  -- spots with one cell are one
  pub same_spot : (s t : SpotParts) → s.structure < length names → t.structure < length names → cell_at names s ≡ cell_at names t → s ≡ t
  same_spot s t l m e =
      let a : Activity = get_or names s.structure no_name in
      let b : Activity = get_or names t.structure no_name in
      let h : a ≡ b = ap (λ (c : CellOf). c.name) e in
      let i : s.structure ≡ t.structure = one_place names apart s.structure t.structure b (get_is names s.structure no_name l ∙ ap (λ (x : Activity). Some x) h) (get_is names t.structure no_name m) in
      ap (λ (k : ℕ). spot k s.index) i ∙ ap (λ (k : ℕ). spot t.structure k) (ap (λ (c : CellOf). c.index) e)

module _ {V : Type 0} (names : List Activity) (apart : Distinct names) where
  pub same_pair : (p q : SpotParts × V) → p.0.structure < length names → q.0.structure < length names → pair_at names p ≡ pair_at names q → p ≡ q
  same_pair p q l m e =
      ap (λ (s : SpotParts). (s, p.1)) (same_spot names apart p.0 q.0 l m (ap (λ (r : CellOf × V). r.0) e)) ∙ ap (λ (v : V). (q.0, v)) (ap (λ (r : CellOf × V). r.1) e)

  pub pairs_distinct : (ps : List (SpotParts × V)) → HaveStructures names ps → Distinct ps → Distinct (pairs_at names ps)
  pairs_distinct ps h d = given_distinct (λ (p : SpotParts × V). pair_at names p) ps (λ p q m n e. same_pair p q (h p m) (h q n) e) d

  module _ (ps : List (SpotParts × V)) (h : HaveStructures names ps) where
    -- what a cell has is what its spot has
    pub to_cell : (s : SpotParts) (v : V) → Contains ps (s, v) → Contains (pairs_at names ps) (cell_at names s, v)
    to_cell s v m = given (λ (p : SpotParts × V). pair_at names p) ps (s, v) m

    pub of_cell : (c : CellOf) (v : V) → Contains (pairs_at names ps) (c, v) → (s : SpotParts) × Contains ps (s, v) × (cell_at names s ≡ c)
    of_cell c v m =
        let r = given_back (λ (p : SpotParts × V). pair_at names p) ps (c, v) m in
        ((r.0).0, subst (λ (w : V). Contains ps ((r.0).0, w)) (ap (λ (q : CellOf × V). q.1) r.2) r.1, ap (λ (q : CellOf × V). q.0) r.2)

    pub under_spot : (k : ℕ) (c : CellOf) (v : V) → slice_get names k ≡ Some c.name → Contains ps (spot k c.index, v) ↔ Contains (pairs_at names ps) (c, v)
    under_spot k c v at = (
      (λ m. subst (λ (d : CellOf). Contains (pairs_at names ps) (d, v)) (cell_back names k c at) (to_cell (spot k c.index) v m)),
      λ m.
          let r = of_cell c v m in
          let e : r.0 ≡ spot k c.index = same_spot names apart r.0 (spot k c.index) (h (r.0, v) r.1) (below_at names k c.name at) (r.2 ∙ sym (cell_back names k c at)) in
          subst (λ (s : SpotParts). Contains ps (s, v)) e r.1,
    )

    pub at_spot : (s : SpotParts) (c : CellOf) (v : V) → slice_get names s.structure ≡ Some c.name → s.index ≡ c.index → Contains ps (s, v) ↔ Contains (pairs_at names ps) (c, v)
    at_spot s c v at e = subst (λ (t : SpotParts). Contains ps (t, v) ↔ Contains (pairs_at names ps) (c, v)) (sym (ap (λ (i : ℕ). spot s.structure i) e)) (under_spot s.structure c v at)

    -- a cell whose structure has no number has nothing
    pub under_none : (c : CellOf) (v : V) → (Contains names c.name → ⊥) → Contains (pairs_at names ps) (c, v) → ⊥
    under_none c v none m =
        let r = of_cell c v m in
        none (subst (λ (a : Activity). Contains names a) (ap (λ (d : CellOf). d.name) r.2) (there_at names (r.0).structure no_name (h (r.0, v) r.1)))

    -- the pairs that are not alone at their spot are those that are not alone at its cell
    pub shared_cells : (qs : List (SpotParts × V)) → ((s : SpotParts) (x : V) → Contains qs (s, x) ↔ (Contains ps (s, x) × HasAnother (λ y. Contains ps (s, y)) x))
        → (c : CellOf) (v : V) → Contains (pairs_at names qs) (c, v) ↔ (Contains (pairs_at names ps) (c, v) × HasAnother (λ y. Contains (pairs_at names ps) (c, y)) v)
    shared_cells qs all c v = (to, back)
      where
        to : Contains (pairs_at names qs) (c, v) → Contains (pairs_at names ps) (c, v) × HasAnother (λ y. Contains (pairs_at names ps) (c, y)) v
        to m =
            let g = given_back (λ (p : SpotParts × V). pair_at names p) qs (c, v) m in
            let s : SpotParts = (g.0).0 in
            let is : cell_at names s ≡ c = ap (λ (q : CellOf × V). q.0) g.2 in
            let r = (all s v).0 (subst (λ (w : V). Contains qs (s, w)) (ap (λ (q : CellOf × V). q.1) g.2) g.1) in (
              subst (λ (d : CellOf). Contains (pairs_at names ps) (d, v)) is (to_cell s v r.0),
              (r.1.0, subst (λ (d : CellOf). Contains (pairs_at names ps) (d, r.1.0)) is (to_cell s r.1.0 r.1.1), r.1.2),
            )

        back : Contains (pairs_at names ps) (c, v) × HasAnother (λ y. Contains (pairs_at names ps) (c, y)) v → Contains (pairs_at names qs) (c, v)
        back (m, (y, n, q)) =
            let r = of_cell c v m in
            let t = of_cell c y n in
            let e : t.0 ≡ r.0 = same_spot names apart t.0 r.0 (h (t.0, y) t.1) (h (r.0, v) r.1) (t.2 ∙ sym r.2) in
            let o = subst (λ (s : SpotParts). Contains ps (s, y)) e t.1 in
            subst (λ (d : CellOf). Contains (pairs_at names qs) (d, v)) r.2 (given (λ (p : SpotParts × V). pair_at names p) qs (r.0, v) ((all r.0 v).1 (r.1, (y, o, q))))

    pub shared_list : (qs : List (SpotParts × V)) (out all : List (CellOf × V)) → ((s : SpotParts) (x : V) → Contains qs (s, x) ↔ (Contains ps (s, x) × HasAnother (λ y. Contains ps (s, y)) x))
        → out ≡ pairs_at names qs → pairs_at names ps ≡ all → (c : CellOf) (v : V) → Contains out (c, v) ↔ (Contains all (c, v) × HasAnother (λ y. Contains all (c, y)) v)
    shared_list qs out all shared is whole c v =
        subst (λ (rs : List (CellOf × V)). Contains rs (c, v) ↔ (Contains all (c, v) × HasAnother (λ y. Contains all (c, y)) v)) (sym is)
        (subst (λ (rs : List (CellOf × V)). Contains (pairs_at names qs) (c, v) ↔ (Contains rs (c, v) × HasAnother (λ y. Contains rs (c, y)) v)) whole (shared_cells qs shared c v))

module _ {V : Type 0} where
  -- another structure leaves the pairs
  pub pairs_still : (names more : List Activity) (a : Activity) (ps : List (SpotParts × V)) → GoesLast names a more → HaveStructures names ps → pairs_at more ps ≡ pairs_at names ps
  pairs_still names more a [] g h = refl
  pairs_still names more a (p ∷ ps) g h =
      ap (λ (x : Activity). (cell_of x p.0.index, p.1) ∷ pairs_at more ps) (stays_at names more a no_name p.0.structure g (h p (Contains-head p ps)))
      ∙ ap (λ (qs : List (CellOf × V)). pair_at names p ∷ qs) (pairs_still names more a ps g (λ q m. h q (Contains-tail p q ps m)))

  pub still_placed : (names more : List Activity) (a : Activity) (ps : List (SpotParts × V)) → GoesLast names a more → HaveStructures names ps → HaveStructures more ps
  still_placed names more a ps g h p m = let l = h p m in let k = no_shorter names more a g in omega (arith, l, k)

  pub still_pairs : (names more : List Activity) (a : Activity) (ps : List (SpotParts × V)) → GoesLast names a more → Distinct more → ArePairs names ps → ArePairs more ps
  still_pairs names more a ps g d n = record { structures = d; placed = still_placed names more a ps g n.placed }

  -- another pair
  module _ (names more : List Activity) (ps qs : List (SpotParts × V)) (k : ℕ) (c : CellOf) (v : V) (n : ArePairs names ps) (g : GoesLast names c.name more) (d : Distinct more) (at : slice_get more k ≡ Some c.name) (w : IsWith ps (spot k c.index, v) qs) where
    pub more_placed : HaveStructures more qs
    more_placed p m = elim ((w p).0 m) [
      | inl o ↦ still_placed names more c.name ps g n.placed p o
      | inr e ↦ subst (λ (q : SpotParts × V). q.0.structure < length more) e (below_at more k c.name at)
    ]

    pub more_pairs : ArePairs more qs
    more_pairs = record { structures = d; placed = more_placed }

    pub pair_more : IsWith (pairs_at names ps) (c, v) (pairs_at more qs)
    pair_more (b, x) = (to, back)
      where
        still : pairs_at more ps ≡ pairs_at names ps
        still = pairs_still names more c.name ps g n.placed

        to : Contains (pairs_at more qs) (b, x) → Contains (pairs_at names ps) (b, x) ⊎ ◌≡◌ {A = CellOf × V} (c, v) (b, x)
        to m =
            let r = given_back (λ (p : SpotParts × V). pair_at more p) qs (b, x) m in
            elim ((w r.0).0 r.1) [
              | inl o ↦ inl (subst (λ (rs : List (CellOf × V)). Contains rs (b, x)) still (subst (λ (q : CellOf × V). Contains (pairs_at more ps) q) r.2 (given (λ (p : SpotParts × V). pair_at more p) ps r.0 o)))
              | inr e ↦ inr (ap (λ (y : CellOf). (y, v)) (sym (cell_back more k c at)) ∙ ap (λ (p : SpotParts × V). pair_at more p) e ∙ r.2)
            ]

        back : Contains (pairs_at names ps) (b, x) ⊎ ◌≡◌ {A = CellOf × V} (c, v) (b, x) → Contains (pairs_at more qs) (b, x)
        back (inl m) =
            let r = given_back (λ (p : SpotParts × V). pair_at more p) ps (b, x) (subst (λ (rs : List (CellOf × V)). Contains rs (b, x)) (sym still) m) in
            subst (λ (q : CellOf × V). Contains (pairs_at more qs) q) r.2 (given (λ (p : SpotParts × V). pair_at more p) qs r.0 ((w r.0).1 (inl r.1)))
        back (inr e) =
            subst (λ (q : CellOf × V). Contains (pairs_at more qs) q) (ap (λ (y : CellOf). (y, v)) (cell_back more k c at) ∙ e)
            (given (λ (p : SpotParts × V). pair_at more p) qs (spot k c.index, v) ((w (spot k c.index, v)).1 (inr refl)))

    -- it was there where its spot had it
    pub was_there : Contains ps (spot k c.index, v) ↔ Contains (pairs_at names ps) (c, v)
    was_there =
        let u = under_spot more d ps (still_placed names more c.name ps g n.placed) k c v at in
        let still = pairs_still names more c.name ps g n.placed in
        ((λ m. subst (λ (rs : List (CellOf × V)). Contains rs (c, v)) still (u.0 m)), λ m. u.1 (subst (λ (rs : List (CellOf × V)). Contains rs (c, v)) (sym still) m))

module _ {V : Type 0} (names : List Activity) (ps : List (Bor SpotParts × Bor V)) where
  -- one pair more
  pub cell_step : (i : ℕ) (p : Bor SpotParts × Bor V) (c : CellOf) (old new : List (CellOf × Bor V)) → i < length ps → p ≡ get_or ps i p → c ≡ cell_at names p.0.now → new ≡ old ++ (c, p.1) ∷ []
      → map deref_at_cell old ≡ pairs_at names (map deref_pair (take i ps)) → map deref_at_cell new ≡ pairs_at names (map deref_pair (take (i + 1) ps))
  cell_step i p c old new l at is n all =
      ap (λ (rs : List (CellOf × Bor V)). map deref_at_cell rs) n
      ∙ given_last deref_at_cell old (c, p.1)
      ∙ ap (λ (rs : List (CellOf × V)). rs ++ (c, p.1.now) ∷ []) all
      ∙ ap (λ (d : CellOf). pairs_at names (map deref_pair (take i ps)) ++ (d, p.1.now) ∷ []) is
      ∙ sym (given_last (λ (q : SpotParts × V). pair_at names q) (map deref_pair (take i ps)) (deref_pair p))
      ∙ ap (λ (qs : List (SpotParts × V)). pairs_at names qs) (sym (given_last deref_pair (take i ps) p))
      ∙ ap (λ (rs : List (Bor SpotParts × Bor V)). pairs_at names (map deref_pair rs)) (sym (take_more ps i p l ∙ ap (λ (w : Bor SpotParts × Bor V). take i ps ++ w ∷ []) (sym at)))

  pub cell_end : (i : ℕ) (out : List (CellOf × Bor V)) → length ps ≤ i → map deref_at_cell out ≡ pairs_at names (map deref_pair (take i ps)) → map deref_at_cell out ≡ pairs_at names (map deref_pair ps)
  cell_end i out l h = h ∙ ap (λ (rs : List (Bor SpotParts × Bor V)). pairs_at names (map deref_pair rs)) (take_all i ps l)

  pub placed_at : HaveStructures names (map deref_pair ps) → (i : ℕ) (p : Bor SpotParts × Bor V) → i < length ps → p ≡ get_or ps i p → (deref_pair p).0.structure < length names
  placed_at h i p l at = h (deref_pair p) (given deref_pair ps p (member_in ps i p l at))
