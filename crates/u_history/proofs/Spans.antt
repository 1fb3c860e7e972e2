-- In a list that rises, what stands at a place begins behind all that stands before it, and ends where it ends once.
use Rattle.std.proofs.Common.{◌≡◌, ◌↔◌, ◌⊎◌, inl, inr, ℕ, ◌<◌, ◌≤◌, ◌+◌, List, [], take, get_or, length, Contains, subst, sym, ◌∙◌, arith, Ordering, refl, ap}
use Rattle.std.proofs.lemmas.List.{get_or_default, get_or-take, length-take}
use Rattle.std.proofs.lemmas.Cmp.{nat_cmp_total, on_total, then_total}
use Rattle.std.specs.FinMap.{nat_cmp-IsAntisymmetric}
use Rattle.std.specs.Ordering.{nat_cmp, ordering_then}
use Rattle.std.specs.Cmp.{IsTotalOrder}
use Rattle.std.specs.declared.cmp.Ordering.TheVariants.{Less, Equal, Greater}
use Rattle.u_name.specs.Name.{Activity}
use Rattle.u_name.specs.NameOrder.{name_cmp, name_cmp_total, name_cmp_ties}
use Rattle.u_name.specs.Cell.{CellOf, cell_cmp}
use Rattle.u_name.specs.ContextLaws.{both}
use Rattle.u_sets.specs.Members.{SomeOf}
use Rattle.u_sets.specs.Rising.{Rises, IsListOf}
use Rattle.u_base.specs.Exact.{IsExact}
use Rattle.u_name.specs.ExactOrders.{cell_cmp_ties, cell_cmp_total}
use Rattle.u_base.proofs.Member.{Contains-nil}
use Rattle.u_sets.proofs.Places.{irreflexive}
use Rattle.u_rule.specs.Parts.{TokenParts}
use Rattle.u_rule.specs.EntryOrder.{entry_cmp}
use Rattle.u_rule.specs.declared.parts.Write.{Write}
use Rattle.u_rule.specs.declared.entry.Entry.{Entry}
use Rattle.u_rule.specs.declared.entry.Entry.TheVariants as entries
use Rattle.u_history.specs.declared.place.MeetingPlace.{MeetingPlace}
use Rattle.u_history.specs.declared.place.MeetingPlace.TheVariants.{Port, Cell}
use Rattle.u_history.specs.Orders.{write_order, token_order}
use Rattle.u_history.specs.Places.{IsAt, IsBefore}
use Rattle.u_history.proofs.Neighbours.{Le, le_of, rises_at}

-- the port of a token: its activity and its number
abbrev PortKey : Type 0
PortKey = Activity × ℕ

abbrev key_cmp : PortKey → PortKey → Ordering
key_cmp a b = ordering_then (name_cmp a.0 b.0) (nat_cmp a.1 b.1)

key_total : IsTotalOrder key_cmp
key_total = then_total (on_total (λ (k : PortKey). k.0) name_cmp_total) (on_total (λ (k : PortKey). k.1) nat_cmp_total)

key_exact : IsExact key_cmp
key_exact a b h =
    let u = both _ _ h in
    ap (λ (n : Activity). (n, a.1)) (name_cmp_ties a.0 b.0 u.0) ∙ ap (λ (p : ℕ). (b.0, p)) (nat_cmp-IsAntisymmetric a.1 b.1 u.1)

abbrev key_of : TokenParts → PortKey
key_of t = (t.activity, t.port)

then_regroup : (o p q : Ordering) → ordering_then o (ordering_then p q) ≡ ordering_then (ordering_then o p) q
then_regroup Less p q = refl
then_regroup Equal p q = refl
then_regroup Greater p q = refl

tokens_le : (a b : TokenParts) → token_order a b ≡ Less → Le key_cmp key_total (key_of a) (key_of b)
tokens_le a b h = le_of key_cmp key_total key_exact (key_of a) (key_of b) _ (sym (then_regroup (name_cmp a.activity b.activity) (nat_cmp a.port b.port) _) ∙ h)

writes_le : (a b : Write) → write_order a b ≡ Less → Le cell_cmp cell_cmp_total a.cell b.cell
writes_le a b h = le_of cell_cmp cell_cmp_total cell_cmp_ties a.cell b.cell _ h

module _ {K : Type 0} (R : K → K → Ordering) (o : IsTotalOrder R) where
  le_less : (a b c : K) → Le R o a b → R b c ≡ Less → R a c ≡ Less
  unfolding Le
  le_less a b c (inl l) h = o.trans a b c l h
  le_less a b c (inr e) h = subst (λ (x : K). R x c ≡ Less) (sym e) h

-- what is below an entry before the place is before it too
before_down : (p : MeetingPlace) (a b : Entry) → entry_cmp a b ≡ Less → IsBefore p b → IsBefore p a
before_down (Port n q) (entries.Token a) (entries.Token b) l h = le_less key_cmp key_total (key_of a) (key_of b) (n.now, q) (tokens_le a b l) h
before_down (Port n q) a (entries.Token b) l h = absurd (cc)
before_down (Port n q) a b l h = absurd h
before_down (Cell c) (entries.Token a) b l h = tt
before_down (Cell c) (entries.Write a) (entries.Write b) l h = le_less cell_cmp cell_cmp_total a.cell b.cell c.now (writes_le a b l) h
before_down (Cell c) a (entries.Token b) l h = absurd (cc)
before_down (Cell c) a (entries.Write b) l h = absurd (cc)
before_down (Cell c) a b l h = absurd h

at_not_before : (p : MeetingPlace) (e : Entry) → IsAt p e → IsBefore p e → ⊥
at_not_before (Port n q) (entries.Token t) s h =
    irreflexive key_cmp key_total (key_of t) (subst (λ (x : PortKey). key_cmp (key_of t) x ≡ Less) (ap (λ (m : Activity). (m, q)) (sym s.0) ∙ ap (λ (r : ℕ). (t.activity, r)) (sym s.1)) h)
at_not_before (Cell c) (entries.Write w) s h =
    irreflexive cell_cmp cell_cmp_total w.cell (subst (λ (x : CellOf). cell_cmp w.cell x ≡ Less) (sym s) h)
at_not_before (Port n q) e s h = absurd s
at_not_before (Cell c) e s h = absurd s

-- behind an entry that is neither before the place nor at it, nothing is at it
past : (p : MeetingPlace) (a b : Entry) → entry_cmp a b ≡ Less → (IsBefore p a → ⊥) → (IsAt p a → ⊥) → IsAt p b → ⊥
unfolding Le
past (Port n q) (entries.Token a) (entries.Token b) l f g s = over (tokens_le a b l)
  where
    over : Le key_cmp key_total (key_of a) (key_of b) → ⊥
    over (inl k) = f (subst (λ (x : PortKey). key_cmp (key_of a) x ≡ Less) (ap (λ (m : Activity). (m, b.port)) s.0 ∙ ap (λ (r : ℕ). (n.now, r)) s.1) k)
    over (inr e) = g (ap (λ (x : PortKey). x.0) e ∙ s.0, ap (λ (x : PortKey). x.1) e ∙ s.1)
past (Port n q) a (entries.Token b) l f g s = absurd (cc)
past (Port n q) a b l f g s = absurd s
past (Cell c) (entries.Token a) b l f g s = f tt
past (Cell c) (entries.Write a) (entries.Write b) l f g s = over (writes_le a b l)
  where
    over : Le cell_cmp cell_cmp_total a.cell b.cell → ⊥
    over (inl k) = f (subst (λ (x : CellOf). cell_cmp a.cell x ≡ Less) s k)
    over (inr e) = g (e ∙ s)
past (Cell c) a (entries.Write b) l f g s = absurd (cc)
past (Cell c) a b l f g s = absurd s

-- a search by halves for the first entry that is not before the place
module _ (p : MeetingPlace) (es : List Entry) (rises : Rises entry_cmp es) (m : ℕ) (below : m < length es) where
  pub low_moved : ((d : Entry) → IsBefore p (get_or es m d)) → (k : ℕ) (d : Entry) → k < m + 1 → IsBefore p (get_or es k d)
  low_moved h k d l = sides (grind arith)
    where
      sides : (k < m) ⊎ (k ≡ m) → IsBefore p (get_or es k d)
      sides (inl b) = before_down p (get_or es k d) (get_or es m d) (rises_at entry_cmp es k m d rises b below) (h d)
      sides (inr e) = subst (λ (i : ℕ). IsBefore p (get_or es i d)) (sym e) (h d)

  pub high_moved : ((d : Entry) → IsBefore p (get_or es m d) → ⊥) → (k : ℕ) (d : Entry) → m ≤ k → k < length es → IsBefore p (get_or es k d) → ⊥
  high_moved h k d l n b = sides (grind arith)
    where
      sides : (m < k) ⊎ (m ≡ k) → ⊥
      sides (inl a) = h d (before_down p (get_or es m d) (get_or es k d) (rises_at entry_cmp es m k d rises a n) b)
      sides (inr e) = h d (subst (λ (i : ℕ). IsBefore p (get_or es i d)) (sym e) b)

in_take : (es : List Entry) (i k : ℕ) (e : Entry) → k < i → k < length es → get_or es k e ≡ e → Contains (take i es) e
in_take es i k e l m g = let n = length-take i es in (k, omega arith, get_or-take i es k e l ∙ g)

of_take : (es : List Entry) (i : ℕ) (e : Entry) → Contains (take i es) e → (k : ℕ) × (k < i) × (k < length es) × (get_or es k e ≡ e)
of_take es i e (k, l, g) =
    let n = length-take i es in
    let a : k < i = omega (arith, l, n) in
    (k, a, omega (arith, l, n), sym (get_or-take i es k e a) ∙ g)

-- what is gathered from the entries at a place, from the first on
module _ {X : Type 0} (K : X → Entry) (p : MeetingPlace) (at : (x : X) → IsAt p (K x)) (es : List Entry) where
  -- no entry before the place is at it
  pub none_before : (start : ℕ) → ((k : ℕ) (d : Entry) → k < start → IsBefore p (get_or es k d)) → (xs : List X) → xs ≡ [] → (x : X) → Contains xs x ↔ (Contains [] x ⊎ SomeOf (take start es) (λ e y. e ≡ K y) x)
  none_before start before xs none x = ((λ m. inl (subst (λ (ys : List X). Contains ys x) none m)), λ s. subst (λ (ys : List X). Contains ys x) (sym none) (back s))
    where
      back : Contains [] x ⊎ SomeOf (take start es) (λ e y. e ≡ K y) x → Contains [] x
      back (inl m) = m
      back (inr (e, m, q)) =
          let t = of_take es start e m in
          absurd (at_not_before p (K x) (at x) (subst (IsBefore p) (t.3 ∙ q) (before t.0 e t.1)))

  module _ (rises : Rises entry_cmp es) (stop : ℕ) (d : Entry) (below : stop < length es) (not_before : IsBefore p (get_or es stop d) → ⊥) (not_at : IsAt p (get_or es stop d) → ⊥) where
    -- nor is one behind the first that is not
    none_behind : (x : X) (k : ℕ) → stop ≤ k → k < length es → get_or es k (K x) ≡ K x → ⊥
    none_behind x k l n g = sides (grind arith)
      where
        is : get_or es k d ≡ K x
        is = get_or_default es k d (K x) n ∙ g

        sides : (stop < k) ⊎ (stop ≡ k) → ⊥
        sides (inl a) = past p (get_or es stop d) (get_or es k d) (rises_at entry_cmp es stop k d rises a n) not_before not_at (subst (IsAt p) (sym is) (at x))
        sides (inr e) = not_at (subst (IsAt p) (sym is ∙ ap (λ (i : ℕ). get_or es i d) (sym e)) (at x))

    -- so all is gathered there
    pub listed_until : (R : X → X → Ordering) (xs : List X) → Rises R xs → ((x : X) → Contains xs x ↔ (Contains [] x ⊎ SomeOf (take stop es) (λ e y. e ≡ K y) x)) → IsListOf R (λ x. Contains es (K x)) xs
    listed_until R xs up all = record { rises = up; exact = λ x. (to x, λ m. back x m) }
      where
        to : (x : X) → Contains xs x → Contains es (K x)
        to x m = elim ((all x).0 m) [ inl n ↦ absurd (Contains-nil x n) | inr s ↦ (let t = of_take es stop s.0 s.1 in subst (Contains es) s.2 (t.0, t.2, t.3)) ]

        back : (x : X) → Contains es (K x) → Contains xs x
        back x (k, l, g) = sides (grind arith)
          where
            sides : (k < stop) ⊎ (stop ≤ k) → Contains xs x
            sides (inl a) = (all x).1 (inr (K x, in_take es stop k (K x) a l g, refl))
            sides (inr b) = absurd (none_behind x k b l g)
