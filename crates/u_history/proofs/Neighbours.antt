-- In a list that rises, what is at one place stands together.
use Rattle.std.proofs.Common.{◌≡◌, ◌↔◌, ◌⊎◌, inl, inr, ℕ, zero, suc, ◌<◌, ◌+◌, ◌-◌, List, [], ◌∷◌, get_or, length, Contains, subst, sym, ◌∙◌, arith, Ordering, refl, ap, IsTrue, Bool, ◌&&◌, ◌==◌}
use Rattle.std.proofs.lemmas.Bool.{and_parts, and_from, eqb-true, eq-eqb}
use Rattle.std.specs.Ordering.{nat_cmp, ordering_then, eq_by_cmp, is_eq}
use Rattle.std.specs.Cmp.{IsTotalOrder, tied_itself, Equal-is}
use Rattle.std.specs.FinMap.{nat_cmp-IsAntisymmetric}
use Rattle.std.specs.declared.cmp.Ordering.TheVariants.{Less, Equal, Greater}
use Rattle.std.proofs.lemmas.Cmp.{nat_cmp_total}
use Rattle.std.proofs.lemmas.List.Elements.{Contains-get_or}
use Rattle.std.proofs.lemmas.List.{get_or_default}
use Rattle.u_name.specs.Name.{Activity}
use Rattle.u_name.specs.NameOrder.{name_cmp, name_cmp_total, name_cmp_ties}
use Rattle.u_name.specs.Cell.{CellOf, cell_of, cell_cmp}
use Rattle.u_sets.specs.Rising.{Rises}
use Rattle.u_base.specs.Exact.{IsExact}
use Rattle.u_sets.proofs.Places.{irreflexive}
use Rattle.u_name.specs.ExactOrders.{cell_cmp_ties, cell_cmp_total}
use Rattle.u_rule.specs.Parts.{TokenParts}
use Rattle.u_rule.specs.EntryOrder.{entry_cmp}
use Rattle.u_rule.specs.ExactOrders.{entry_cmp_total}
use Rattle.u_rule.specs.declared.parts.Write.{Write}
use Rattle.u_rule.specs.declared.entry.Entry.{Entry}
use Rattle.u_rule.specs.declared.entry.Entry.TheVariants as entries
use Rattle.u_history.specs.Orders.{write_order, token_order}
use Rattle.u_history.specs.Places.{AtOnePlace, IsClashing}

-- `==` on names and on cells tells them apart
pub same_name : (a b : Activity) → IsTrue (eq_by_cmp name_cmp a b) ↔ (a ≡ b)
same_name a b =
    ((λ h. name_cmp_ties a b ((Equal-is (name_cmp a b)).0 h)), λ e. ap (λ (x : Activity). eq_by_cmp name_cmp a x) (sym e) ∙ ap is_eq (tied_itself name_cmp_total a))

pub same_cell : (a b : CellOf) → IsTrue (eq_by_cmp name_cmp a.name b.name && a.index == b.index) ↔ (a ≡ b)
same_cell a b = (to, back)
  where
    to : IsTrue (eq_by_cmp name_cmp a.name b.name && a.index == b.index) → a ≡ b
    to h =
        let p = and_parts (eq_by_cmp name_cmp a.name b.name) (a.index == b.index) h in
        ap (λ n. cell_of n a.index) ((same_name a.name b.name).0 p.0) ∙ ap (λ i. cell_of b.name i) (eqb-true a.index b.index p.1)

    back : a ≡ b → IsTrue (eq_by_cmp name_cmp a.name b.name && a.index == b.index)
    back e =
        and_from (eq_by_cmp name_cmp a.name b.name) (a.index == b.index) ((same_name a.name b.name).1 (ap (λ (x : CellOf). x.name) e)) (eq-eqb a.index b.index (ap (λ (x : CellOf). x.index) e))

then_less : (p q : Ordering) → ordering_then p q ≡ Less → (p ≡ Less) ⊎ ((p ≡ Equal) × (q ≡ Less))
then_less Less q e = inl refl
then_less Equal q e = inr (refl, e)
then_less Greater q e = absurd (cc)

-- what lies between two equal things is equal to them
module _ {K : Type 0} (R : K → K → Ordering) (o : IsTotalOrder R) where
  unfoldable pub Le : K → K → Type 0
  Le a b = (R a b ≡ Less) ⊎ (a ≡ b)

  pub le_of : IsExact R → (a b : K) (q : Ordering) → ordering_then (R a b) q ≡ Less → Le a b
  unfolding Le
  le_of exact a b q h = elim (then_less (R a b) q h) [ inl l ↦ inl l | inr e ↦ inr (exact a b e.0) ]

  squeezed : (a b c : K) → Le a b → Le b c → a ≡ c → (a ≡ b) × (b ≡ c)
  unfolding Le
  squeezed a b c (inl p) (inl q) e = absurd (irreflexive R o a (subst (λ (x : K). R a x ≡ Less) (sym e) (o.trans a b c p q)))
  squeezed a b c (inl p) (inr q) e = absurd (irreflexive R o a (subst (λ (x : K). R a x ≡ Less) (q ∙ sym e) p))
  squeezed a b c (inr p) q e = (p, sym p ∙ e)

  rest_less : (a b : K) (q : Ordering) → a ≡ b → ordering_then (R a b) q ≡ Less → q ≡ Less
  rest_less a b q e h = elim (then_less (R a b) q h) [ inl l ↦ absurd (irreflexive R o a (subst (λ (x : K). R a x ≡ Less) (sym e) l)) | inr t ↦ t.1 ]

ports_between : (a b c : TokenParts) → token_order a b ≡ Less → token_order b c ≡ Less → (a.activity ≡ c.activity) × (a.port ≡ c.port) → ((a.activity ≡ b.activity) × (a.port ≡ b.port)) × ((b.activity ≡ c.activity) × (b.port ≡ c.port))
ports_between a b c p q s =
    let n = squeezed name_cmp name_cmp_total a.activity b.activity c.activity (le_of name_cmp name_cmp_total name_cmp_ties a.activity b.activity _ p) (le_of name_cmp name_cmp_total name_cmp_ties b.activity c.activity _ q) s.0 in
    let u = rest_less name_cmp name_cmp_total a.activity b.activity _ n.0 p in
    let v = rest_less name_cmp name_cmp_total b.activity c.activity _ n.1 q in
    let m = squeezed nat_cmp nat_cmp_total a.port b.port c.port (le_of nat_cmp nat_cmp_total nat_cmp-IsAntisymmetric a.port b.port _ u) (le_of nat_cmp nat_cmp_total nat_cmp-IsAntisymmetric b.port c.port _ v) s.1 in
    ((n.0, m.0), (n.1, m.1))

cells_between : (a b c : Write) → write_order a b ≡ Less → write_order b c ≡ Less → a.cell ≡ c.cell → (a.cell ≡ b.cell) × (b.cell ≡ c.cell)
cells_between a b c p q s =
    squeezed cell_cmp cell_cmp_total a.cell b.cell c.cell (le_of cell_cmp cell_cmp_total cell_cmp_ties a.cell b.cell _ p) (le_of cell_cmp cell_cmp_total cell_cmp_ties b.cell c.cell _ q) s

between : (a b c : Entry) → entry_cmp a b ≡ Less → entry_cmp b c ≡ Less → AtOnePlace a c → AtOnePlace a b × AtOnePlace b c
between (entries.Token a) (entries.Token b) (entries.Token c) p q s = ports_between a b c p q s
between (entries.Write a) (entries.Write b) (entries.Write c) p q s = cells_between a b c p q s
between (entries.Token a) b (entries.Token c) p q s = cc
between (entries.Write a) b (entries.Write c) p q s = cc
between a b c p q s = absurd s

turned : (a b : Entry) → AtOnePlace a b → AtOnePlace b a
turned (entries.Token a) (entries.Token b) s = (sym s.0, sym s.1)
turned (entries.Write a) (entries.Write b) s = sym s
turned a b s = absurd s

module _ {X : Type 0} (R : X → X → Ordering) where
  pub rises_at : (xs : List X) (j k : ℕ) (d : X) → Rises R xs → j < k → k < length xs → R (get_or xs j d) (get_or xs k d) ≡ Less
  rises_at [] j k d r l m = absurd (omega arith)
  rises_at (x ∷ xs) j zero d r l m = absurd (omega arith)
  rises_at (x ∷ xs) zero (suc k) d r l m = r.0 (get_or xs k d) (Contains-get_or xs k d (omega arith))
  rises_at (x ∷ xs) (suc j) (suc k) d r l m = rises_at xs j k d r.1 (omega arith) (omega arith)

module _ (es : List Entry) (i : ℕ) (e : Entry) (rises : Rises entry_cmp es) (below : i < length es) (at : e ≡ get_or es i e) where
  order_before : (f : Entry) (j : ℕ) → j < i → f ≡ get_or es j f → entry_cmp f e ≡ Less
  order_before f j l at_j =
      subst (λ (x : Entry). entry_cmp x e ≡ Less) (get_or_default es j e f (omega arith) ∙ sym at_j) (subst (λ (x : Entry). entry_cmp (get_or es j e) x ≡ Less) (sym at) (rises_at entry_cmp es j i e rises l below))

  order_after : (f : Entry) (j : ℕ) → i < j → j < length es → f ≡ get_or es j f → entry_cmp e f ≡ Less
  order_after f j l m at_j =
      subst (λ (x : Entry). entry_cmp e x ≡ Less) (get_or_default es j e f m ∙ sym at_j) (subst (λ (x : Entry). entry_cmp x (get_or es j e) ≡ Less) (sym at) (rises_at entry_cmp es i j e rises l m))

  never : entry_cmp e e ≡ Less → ⊥
  never = irreflexive entry_cmp entry_cmp_total e

  pub before_clashes : (f : Entry) → 0 < i → f ≡ get_or es (i - 1) f → AtOnePlace e f → IsClashing (Contains es) e
  before_clashes f l at_f s =
      ((i, below, sym at), (f, (i - 1, omega arith, sym at_f), s, (λ p. never (subst (λ (x : Entry). entry_cmp x e ≡ Less) (sym p) (order_before f (i - 1) (omega arith) at_f)))))

  pub after_clashes : (f : Entry) → i + 1 < length es → f ≡ get_or es (i + 1) f → AtOnePlace e f → IsClashing (Contains es) e
  after_clashes f l at_f s =
      ((i, below, sym at), (f, (i + 1, l, sym at_f), s, (λ p. never (subst (λ (x : Entry). entry_cmp e x ≡ Less) (sym p) (order_after f (i + 1) (omega arith) l at_f)))))

  -- what clashes has a neighbour at its place
  pub clash_near : IsClashing (Contains es) e → (((f : Entry) → f ≡ get_or es (i - 1) f → AtOnePlace e f) × (0 < i)) ⊎ (((f : Entry) → f ≡ get_or es (i + 1) f → AtOnePlace e f) × (i + 1 < length es))
  clash_near (m, (f, (j, l, at_f), s, differ)) = sides (nat_sides j i)
    where
      nat_sides : (a b : ℕ) → (a < b) ⊎ ((a ≡ b) ⊎ (b < a))
      nat_sides a b = grind arith

      same_at : (g : Entry) (k : ℕ) → j ≡ k → g ≡ get_or es k g → g ≡ f
      same_at g k p at_g = at_g ∙ get_or_default es k g f (omega (arith, l)) ∙ ap (λ (n : ℕ). get_or es n f) (sym p) ∙ at_f

      near_before : (g : Entry) → j < i → g ≡ get_or es (i - 1) g → (j < i - 1) ⊎ (j ≡ i - 1) → AtOnePlace e g
      near_before g h at_g (inr p) = subst (λ (x : Entry). AtOnePlace e x) (sym (same_at g (i - 1) p at_g)) s
      near_before g h at_g (inl q) =
          let o = subst (λ (x : Entry). entry_cmp x (get_or es (i - 1) f) ≡ Less) at_f (rises_at entry_cmp es j (i - 1) f rises q (omega arith)) in
          let o2 : entry_cmp f g ≡ Less = subst (λ (x : Entry). entry_cmp f x ≡ Less) (get_or_default es (i - 1) f g (omega arith) ∙ sym at_g) o in
          turned g e (between f g e o2 (order_before g (i - 1) (omega arith) at_g) (turned e f s)).1

      near_after : (g : Entry) → i < j → g ≡ get_or es (i + 1) g → (i + 1 < j) ⊎ (j ≡ i + 1) → AtOnePlace e g
      near_after g h at_g (inr p) = subst (λ (x : Entry). AtOnePlace e x) (sym (same_at g (i + 1) p at_g)) s
      near_after g h at_g (inl q) =
          let o = subst (λ (x : Entry). entry_cmp (get_or es (i + 1) f) x ≡ Less) at_f (rises_at entry_cmp es (i + 1) j f rises q l) in
          let o2 : entry_cmp g f ≡ Less = subst (λ (x : Entry). entry_cmp x f ≡ Less) (get_or_default es (i + 1) f g (omega arith) ∙ sym at_g) o in
          (between e g f (order_after g (i + 1) (omega arith) (omega (arith, l)) at_g) o2 s).0

      sides : (j < i) ⊎ ((j ≡ i) ⊎ (i < j)) → (((g : Entry) → g ≡ get_or es (i - 1) g → AtOnePlace e g) × (0 < i)) ⊎ (((g : Entry) → g ≡ get_or es (i + 1) g → AtOnePlace e g) × (i + 1 < length es))
      sides (inl h) = inl ((λ g at_g. near_before g h at_g (grind arith)), omega arith)
      sides (inr (inl p)) = absurd (differ (same_at e i p at))
      sides (inr (inr h)) = inr ((λ g at_g. near_after g h at_g (grind arith)), omega (arith, l))

-- the test by the two neighbours
module _ (es : List Entry) (i : ℕ) (d : Entry) (rises : Rises entry_cmp es) (below : i < length es) (b a : Bool) (before : IsTrue b ↔ ((0 < i) × AtOnePlace (get_or es i d) (get_or es (i - 1) d))) (after : IsTrue a ↔ ((i + 1 < length es) × AtOnePlace (get_or es i d) (get_or es (i + 1) d))) where
  here : get_or es i d ≡ get_or es i (get_or es i d)
  here = get_or_default es i d (get_or es i d) below

  pub clash_if : IsTrue b ⊎ IsTrue a → IsClashing (Contains es) (get_or es i d)
  clash_if (inl t) =
      let p = before.0 t in
      before_clashes es i (get_or es i d) rises below here (get_or es (i - 1) d) p.0 (get_or_default es (i - 1) d (get_or es (i - 1) d) (omega arith)) p.1
  clash_if (inr t) =
      let p = after.0 t in
      after_clashes es i (get_or es i d) rises below here (get_or es (i + 1) d) p.0 (get_or_default es (i + 1) d (get_or es (i + 1) d) p.0) p.1

  pub clash_only : IsClashing (Contains es) (get_or es i d) → IsTrue b ⊎ IsTrue a
  clash_only k =
      elim (clash_near es i (get_or es i d) rises below here k) [
        | inl p ↦ inl (before.1 (p.1, p.0 (get_or es (i - 1) d) (get_or_default es (i - 1) d (get_or es (i - 1) d) (omega arith))))
        | inr q ↦ inr (after.1 (q.1, q.0 (get_or es (i + 1) d) (get_or_default es (i + 1) d (get_or es (i + 1) d) q.1)))
      ]
