-- The cell that is to blame for two values at a port.
use Rattle.std.proofs.Common.{◌≡◌, ◌∙◌, ℕ, ◌<◌, ◌≤◌, List, [], ◌∷◌, ◌++◌, ◌⊎◌, inl, inr, refl, sym, subst, ap, map, length, get_or, Some, None, arith, Ordering}
use Rattle.std.specs.Prelude.{Contains, slice_get, Option, IsSome, Result, Ok, Err, IfOk}
use Rattle.std.specs.Cmp.{IsTotalOrder, tied_itself}
use Rattle.std.specs.declared.cmp.Ordering.TheVariants.{Less, Equal, Greater}
use Rattle.u_base.specs.Firing.{System, Held, Same, Derivation}
use Rattle.u_base.proofs.Member.{Contains-nil, Contains-head, Contains-tail, Contains-cons_cases}
use Rattle.u_base.proofs.Held.{Held-append_left, Held-append_right}
use Rattle.u_base.proofs.Closure.{Derivation-append}
use Rattle.u_sets.specs.Rising.{IsListOf, in_order}
use Rattle.u_sets.proofs.Listed.{rises, members}
use Rattle.u_sets.proofs.Places.{irreflexive}
use Rattle.u_name.specs.Name.{Activity}
use Rattle.u_name.specs.Cell.{CellOf, cell_cmp}
use Rattle.u_name.specs.ExactOrders.{cell_cmp_total, cell_cmp_ties}
use Rattle.u_value.specs.declared.value.Value.{Value}
use Rattle.u_check.specs.Jobs.{JobParts}
use Rattle.u_rule.specs.Parts.{token}
use Rattle.u_rule.specs.Rule.{own_of, start_of}
use Rattle.u_rule.specs.EntryOrder.{write_of, written}
use Rattle.u_rule.specs.declared.parts.Write.{Write}
use Rattle.u_rule.specs.declared.entry.Entry.{Entry}
use Rattle.u_rule.specs.declared.entry.Entry.TheVariants as entries
use Rattle.u_rule.specs.declared.firing.Firing.{Firing}
use Rattle.u_rule.specs.declared.parts.Written.{Written}
use Rattle.u_rule.specs.contracts.parts.WrittenOrd.TheImpl.Laws as written_laws
use Rattle.u_value.specs.contracts.value.ValueOrd.TheImpl.Laws as value_laws
use Rattle.u_history.specs.Orders.{value_order, written_order}
use Rattle.u_history.specs.Outcomes.{CellPairs, PairIn, ValueAt, HasTwo, IsCellClash, cell_clash_order}
use Rattle.u_rule.specs.WrittenOrder.{written_order_ties}
use Rattle.u_history.specs.Clashes.{cell_pairs, port_values}
use Rattle.u_history.specs.OutcomeParts.{IsOutcomeOf}
use Rattle.u_history.specs.declared.outcome.Outcome.{Outcome}
use Rattle.u_history.specs.declared.clash.CellClash.{CellClash}
use Rattle.u_history.proofs.OneValue.{one_pair}
use Rattle.u_history.proofs.Reports.{outcome_same}
use Rattle.u_determinate.specs.Strict.{IsStrict}
use Rattle.u_determinate.specs.Determinate.{IsDeterminate}
use Rattle.u_trace.specs.declared.blame_error.BlameError.{BlameError}
use Rattle.u_determinate.specs.Theorem.{IsDeterminateJob, TwoWrites, TwoValues}
use Rattle.u_determinate.proofs.Theorem.{own_runs}
use Rattle.u_trace.specs.Holding.{GivenBy}
use Rattle.u_trace.specs.Givers.{AreGivers}
use Rattle.u_trace.specs.Stories.{IsStory}
use Rattle.u_trace.specs.Blames.{AreTwoLeast, AreFirstTokens, AreLeastTokens, JoinsStories, IsLeastTwice, BlameAmong}
use Rattle.u_trace.specs.Blames.{IsFoundAmong, IsFoundAt, HasWritesOf, BlameOf, BlamesByWrites}
use Rattle.u_trace.specs.declared.blamed.Blame.{Blame}
use Rattle.u_trace.proofs.StoryLaws.{held_giver, tells}

-- lists with two members or more
module _ {X : Type 0} (R : X → X → Ordering) (P : X → Type 0) where
  pub two_first : (xs : List X) (x y : X) → IsListOf R P xs → 2 ≤ length xs → x ≡ get_or xs 0 x → y ≡ get_or xs 1 y → AreTwoLeast R P x y
  two_first [] x y is l p q = absurd (omega (arith, l))
  two_first (a ∷ []) x y is l p q = absurd (omega (arith, l))
  two_first (a ∷ b ∷ xs) x y is l p q = subst (λ (z : X). AreTwoLeast R P z y) (sym p) (subst (λ (z : X). AreTwoLeast R P a z) (sym q) (record { others = xs; list = is }))

  pub too_few : (xs : List X) → IsListOf R P xs → length xs < 2 → HasTwo P → ⊥
  too_few [] is l (a, b, p, q, n) = Contains-nil a ((is.exact a).1 p)
  too_few (x ∷ []) is l (a, b, p, q, n) = n (sym (only a ((is.exact a).1 p)) ∙ only b ((is.exact b).1 q))
    where
      only : (z : X) → Contains (x ∷ []) z → x ≡ z
      only z m = elim (Contains-cons_cases x z [] m) [ inl e ↦ e | inr k ↦ absurd (Contains-nil z k) ]
  too_few (x ∷ y ∷ xs) is l two = absurd (omega (arith, l))

  pub has_first : (x y : X) → AreTwoLeast R P x y → P x
  has_first x y t = (t.list.exact x).0 (Contains-head x (y ∷ t.others))

  pub has_second : (x y : X) → AreTwoLeast R P x y → P y
  has_second x y t = (t.list.exact y).0 (Contains-tail x y (y ∷ t.others) (Contains-head y t.others))

  pub differ : IsTotalOrder R → (x y : X) → AreTwoLeast R P x y → x ≡ y → ⊥
  differ o x y t e = irreflexive R o x (subst (λ (z : X). R x z ≡ Less) (sym e) (t.list.rises.0 y (Contains-head y t.others)))

-- what a list with two members or more begins with
pub front_two : {X : Type 0} (xs : List X) (x y : X) → 2 ≤ length xs → x ≡ get_or xs 0 x → y ≡ get_or xs 1 y → (rest : List X) × (xs ≡ x ∷ y ∷ rest)
front_two [] x y l p q = absurd (omega (arith, l))
front_two (a ∷ []) x y l p q = absurd (omega (arith, l))
front_two {X} (a ∷ b ∷ xs) x y l p q = (xs, ap (λ (z : X). z ∷ b ∷ xs) (sym p) ∙ ap (λ (z : X). x ∷ z ∷ xs) (sym q))

same_cells : (c d : CellOf) → (c ≡ d) ⊎ (c ≡ d → ⊥)
same_cells c d = at (cell_cmp c d) refl
  where
    tied : c ≡ d → cell_cmp c d ≡ Equal
    tied q = subst (λ (z : CellOf). cell_cmp c z ≡ Equal) q (tied_itself cell_cmp_total c)

    at : (o : Ordering) → cell_cmp c d ≡ o → (c ≡ d) ⊎ (c ≡ d → ⊥)
    at Equal e = inl (cell_cmp_ties c d e)
    at Less e = inr (λ q. let t = tied q in cc)
    at Greater e = inr (λ q. let t = tied q in cc)

-- the pairs of a cell among the entries of a list
module _ (c : CellOf) where
  abbrev ArePairs : List Entry → List Written → Type 0
  ArePairs es ws = Same (Contains ws) (PairIn (Contains es) c)

  abbrev pair_entry : Written → Entry
  pair_entry x = entries.Write (write_of c x.writer x.value)

  -- where the entry is no write of the cell
  pairs_still : (e : Entry) (es : List Entry) (ws : List Written) → ((x : Written) → e ≡ pair_entry x → ⊥) → ArePairs es ws → ArePairs (e ∷ es) ws
  pairs_still e es ws none are x = (
    (λ m. Contains-tail e (pair_entry x) es ((are x).0 m)),
    λ m. (are x).1 (elim (Contains-cons_cases e (pair_entry x) es m) [ inl q ↦ absurd (none x q) | inr k ↦ k ]),
  )

  pairs_more : (w : Written) (es : List Entry) (ws : List Written) → ArePairs es ws → ArePairs (pair_entry w ∷ es) (w ∷ ws)
  pairs_more w es ws are x = (to, back)
    where
      to : Contains (w ∷ ws) x → Contains (pair_entry w ∷ es) (pair_entry x)
      to m = elim (Contains-cons_cases w x ws m) [
        | inl e ↦ subst (λ (y : Written). Contains (pair_entry w ∷ es) (pair_entry y)) e (Contains-head (pair_entry w) es)
        | inr k ↦ Contains-tail (pair_entry w) (pair_entry x) es ((are x).0 k)
      ]

      back : Contains (pair_entry w ∷ es) (pair_entry x) → Contains (w ∷ ws) x
      back m = elim (Contains-cons_cases (pair_entry w) (pair_entry x) es m) [
        | inl e ↦ subst (λ (y : Written). Contains (w ∷ ws) y) (one_pair c w x e) (Contains-head w ws)
        | inr k ↦ Contains-tail w x ws ((are x).1 k)
      ]

  pairs : (es : List Entry) → (ws : List Written) × ArePairs es ws
  pairs [] = ([], λ x. ((λ m. absurd (Contains-nil x m)), λ m. absurd (Contains-nil (pair_entry x) m)))
  pairs (e ∷ es) = over e (pairs es)
    where
      moved : (w : Write) (ws : List Written) → (w.cell ≡ c) ⊎ (w.cell ≡ c → ⊥) → ArePairs es ws → (vs : List Written) × ArePairs (entries.Write w ∷ es) vs
      moved w ws (inl q) are = (
        written w.writer w.value ∷ ws,
        subst (λ (d : CellOf). ArePairs (entries.Write (write_of d w.writer w.value) ∷ es) (written w.writer w.value ∷ ws)) (sym q) (pairs_more (written w.writer w.value) es ws are),
      )
      moved w ws (inr n) are = (ws, pairs_still (entries.Write w) es ws (λ x q. n (let h : w.cell ≡ c = cc in h)) are)

      over : (e : Entry) → ((ws : List Written) × ArePairs es ws) → (vs : List Written) × ArePairs (e ∷ es) vs
      over (entries.Write w) (ws, are) = moved w ws (same_cells w.cell c) are
      over (entries.Token t) (ws, are) = (ws, pairs_still (entries.Token t) es ws (λ x q. cc) are)
      over (entries.Fault x) (ws, are) = (ws, pairs_still (entries.Fault x) es ws (λ y q. cc) are)
      over (entries.Answer v) (ws, are) = (ws, pairs_still (entries.Answer v) es ws (λ x q. cc) are)

  -- a cell with two pairs, and all its pairs in order
  clash_of : (es : List Entry) → HasTwo (PairIn (Contains es) c) → (r : CellPairs) × (r.cell ≡ c) × IsCellClash (Contains es) r
  clash_of es two =
      let w = pairs es in (
        record { cell = c; pairs = in_order written_order w.0 },
        refl,
        (
          two,
          record {
            rises = rises written_order written_laws.total-law written_order_ties w.0;
            exact = λ x. ((λ m. (w.1 x).0 ((members written_order written_laws.total-law written_order_ties w.0 x).0 m)), λ h. (members written_order written_laws.total-law written_order_ties w.0 x).1 ((w.1 x).1 h));
          },
        ),
      )

-- the first of the cells that clash is the least, and where none clashes there is none
module _ (es : List Entry) where
  none_twice : IsListOf cell_clash_order (IsCellClash (Contains es)) [] → (c : CellOf) → HasTwo (PairIn (Contains es) c) → ⊥
  none_twice is c two = let w = clash_of c es two in Contains-nil w.0 ((is.exact w.0).1 w.2)

  first_least : (r : CellPairs) (rs : List CellPairs) → IsListOf cell_clash_order (IsCellClash (Contains es)) (r ∷ rs) → IsLeastTwice (Contains es) r.cell
  first_least r rs is = record { twice = ((is.exact r).0 (Contains-head r rs)).0; least = least }
    where
      over : (c : CellOf) (w : CellPairs) → w.cell ≡ c → (r ≡ w) ⊎ Contains rs w → (c ≡ r.cell) ⊎ (cell_cmp r.cell c ≡ Less)
      over c w q (inl e) = inl (sym q ∙ sym (ap (λ (k : CellPairs). k.cell) e))
      over c w q (inr m) = inr (subst (λ (d : CellOf). cell_cmp r.cell d ≡ Less) q (is.rises.0 w m))

      least : (c : CellOf) → HasTwo (PairIn (Contains es) c) → (c ≡ r.cell) ⊎ (cell_cmp r.cell c ≡ Less)
      least c two = let w = clash_of c es two in over c w.0 w.1 (Contains-cons_cases r w.0 rs ((is.exact w.0).1 w.2))

-- the same of another set with the same members
module _ (H K : Entry → Type 0) (same : Same H K) where
  two_to : (c : CellOf) → HasTwo (PairIn H c) → HasTwo (PairIn K c)
  two_to c (a, b, h, k, q) = (a, b, (same (pair_entry c a)).0 h, (same (pair_entry c b)).0 k, q)

  two_back : (c : CellOf) → HasTwo (PairIn K c) → HasTwo (PairIn H c)
  two_back c (a, b, h, k, q) = (a, b, (same (pair_entry c a)).1 h, (same (pair_entry c b)).1 k, q)

  least_same : (c : CellOf) → IsLeastTwice H c → IsLeastTwice K c
  least_same c l = record { twice = two_to c l.twice; least = λ d two. l.least d (two_back d two) }

module _ (job : JobParts) (fs : List Firing) (es : List Entry) (same : Same (Contains es) (Held (own_of job) fs)) (o : Outcome) (is : IsOutcomeOf (Contains es) o) where
  -- what the clashes in cells say of the firings
  cells_of : IsListOf cell_clash_order (IsCellClash (Held (own_of job) fs)) (map cell_pairs o.cell_clashes)
  cells_of = (outcome_same (Contains es) (Held (own_of job) fs) same o.answers (map cell_pairs o.cell_clashes) (map port_values o.port_clashes) o.faults is).all_cells

  pub no_cell : None ≡ slice_get o.cell_clashes 0 → BlameAmong job fs None
  no_cell q c two = over o.cell_clashes q is.all_cells
    where
      over : (ks : List CellClash) → None ≡ slice_get ks 0 → IsListOf cell_clash_order (IsCellClash (Contains es)) (map cell_pairs ks) → ⊥
      over [] q l = none_twice es l c (two_back (Contains es) (Held (own_of job) fs) same c two)
      over (k ∷ ks) q l = absurd (cc)

  pub cell_clash : (k : CellClash) → Some k ≡ slice_get o.cell_clashes 0 → IsCellClash (Held (own_of job) fs) (cell_pairs k)
  cell_clash k q = over o.cell_clashes q cells_of
    where
      over : (ks : List CellClash) → Some k ≡ slice_get ks 0 → IsListOf cell_clash_order (IsCellClash (Held (own_of job) fs)) (map cell_pairs ks) → IsCellClash (Held (own_of job) fs) (cell_pairs k)
      over [] q l = absurd (cc)
      over (j ∷ ks) q l = let e : j ≡ k = cc in subst (λ (x : CellClash). IsCellClash (Held (own_of job) fs) (cell_pairs x)) e ((l.exact (cell_pairs j)).0 (Contains-head (cell_pairs j) (map cell_pairs ks)))

  pub least_cell : (k : CellClash) → Some k ≡ slice_get o.cell_clashes 0 → IsLeastTwice (Held (own_of job) fs) k.cell
  least_cell k q = over o.cell_clashes q is.all_cells
    where
      over : (ks : List CellClash) → Some k ≡ slice_get ks 0 → IsListOf cell_clash_order (IsCellClash (Contains es)) (map cell_pairs ks) → IsLeastTwice (Held (own_of job) fs) k.cell
      over [] q l = absurd (cc)
      over (j ∷ ks) q l = let e : j ≡ k = cc in least_same (Contains es) (Held (own_of job) fs) same k.cell (subst (λ (x : CellClash). IsLeastTwice (Contains es) x.cell) e (first_least es (cell_pairs j) (map cell_pairs ks) l))

-- the least cell, with its writes
pub blames_cell : (job : JobParts) (fs : List Firing) (cell : CellOf) (b : Blame) → IsLeastTwice (Held (own_of job) fs) cell → HasWritesOf job fs cell b → BlameAmong job fs (Some b)
blames_cell job fs cell b least has = subst (λ (c : CellOf). IsLeastTwice (Held (own_of job) fs) c × HasWritesOf job fs c b) (sym has.cell_is) (least, has)

-- a write is not the start, so some firing gives it
pub write_given : (job : JobParts) (fs : List Firing) (w : Write) → Held (own_of job) fs (entries.Write w) → GivenBy (own_of job) fs (entries.Write w)
unfolding start_of
write_given job fs w (inl q) = absurd (cc)
write_given job fs w (inr g) = g

-- the stories of two entries, one behind the other
module _ {E F : Type 0} (s : System E F) (log : List F) (d : Derivation s log) (at : E → Option ℕ) (g : AreGivers s log at) (same : (x y : E) → (x ≡ y) ⊎ (x ≡ y → ⊥)) where
  story_holds : (e : E) (fs : List F) → Held s log e → IsStory s log e fs → Held s fs e
  story_holds e fs h story = over (same e s.start)
    where
      over : (e ≡ s.start) ⊎ (e ≡ s.start → ⊥) → Held s fs e
      over (inl q) = inl q
      over (inr n) =
          let w = held_giver s log d at g same e n h in
          inr (w.1.firing, (tells s log d at g same e h fs story).complete.own w.1.firing n (w.0, w.1, w.1.at), w.1.gives)

  pub joins : (a b : E) (front behind joined : List F) → Held s log a → Held s log b → IsStory s log a front → IsStory s log b behind → joined ≡ front ++ behind → JoinsStories s log a b joined
  joins a b front behind joined h k p q is = record {
    front = front;
    behind = behind;
    is = is;
    is_front = p;
    is_behind = q;
    derivation = subst (Derivation s) (sym is) (Derivation-append s front behind (tells s log d at g same a h front p).derivation (tells s log d at g same b k behind q).derivation);
    has_one = subst (λ (fs : List F). Held s fs a) (sym is) (Held-append_left s front behind a (story_holds a front h p));
    has_other = subst (λ (fs : List F). Held s fs b) (sym is) (Held-append_right s front behind b (story_holds b behind k q));
  }

-- the first two values of a list are the two least of those that it lists
module _ (job : JobParts) (log : List Firing) (n : Activity) (p : ℕ) where
  pub least_tokens : (vs : List Value) (found : Option (Entry × Entry)) → IsListOf value_order (ValueAt (Held (own_of job) log) n p) vs → AreFirstTokens n p vs found → AreLeastTokens job log n p found
  least_tokens vs None is few = too_few value_order (ValueAt (Held (own_of job) log) n p) vs is few
  least_tokens vs (Some q) is (v, w, rest, e, are) = (v, w, record { others = rest; list = subst (IsListOf value_order (ValueAt (Held (own_of job) log) n p)) e is }, are)

  pub one_held : (q : Entry × Entry) → AreLeastTokens job log n p (Some q) → Held (own_of job) log q.0
  one_held q (v, w, least, are) = subst (Held (own_of job) log) (sym are.0) (has_first value_order (ValueAt (Held (own_of job) log) n p) v w least)

  pub other_held : (q : Entry × Entry) → AreLeastTokens job log n p (Some q) → Held (own_of job) log q.1
  other_held q (v, w, least, are) = subst (Held (own_of job) log) (sym are.1) (has_second value_order (ValueAt (Held (own_of job) log) n p) v w least)

  pub found_at : (q : Entry × Entry) (found : Option Blame) → AreLeastTokens job log n p (Some q) → IsFoundAmong job log q.0 q.1 found → IsFoundAt job log n p found
  found_at q found (v, w, least, are) among = record {
    one = v;
    other = w;
    least = least;
    stories = subst (λ (b : Entry). IsFoundAmong job log (entries.Token (token n p v)) b found) are.1 (subst (λ (a : Entry). IsFoundAmong job log a q.1 found) are.0 among);
  }

-- where only writes clash, some cell is blamed
module _ (job : JobParts) (log : List Firing) (n : Activity) (p : ℕ) (found : Option Blame) (at : IsFoundAt job log n p found) (by : IsDeterminateJob job) where
  two_values : TwoValues (Held (own_of job) at.stories.joined)
  two_values = record {
    activity = n;
    port = p;
    one = at.one;
    other = at.other;
    has_one = at.stories.joins.has_one;
    has_other = at.stories.joins.has_other;
    differ = differ value_order (ValueAt (Held (own_of job) log) n p) value_laws.total-law at.one at.other at.least;
  }

  two_pairs : (t : TwoWrites (Held (own_of job) at.stories.joined)) → HasTwo (PairIn (Held (own_of job) at.stories.joined) t.cell)
  two_pairs t = (written t.one_writer t.one, written t.other_writer t.other, t.has_one, t.has_other, λ e. t.differ (ap (λ (x : Written). x.writer) e, ap (λ (x : Written). x.value) e))

  pub some_cell : IsSome found
  some_cell = over found at.stories.among
    where
      over : (f : Option Blame) → BlameAmong job at.stories.joined f → IsSome f
      over None none = let t = (own_runs job by at.stories.joined at.stories.joins.derivation).values two_values in absurd (none t.cell (two_pairs t))
      over (Some b) among = refl

-- so it is of strict and of determinate programs
pub always_some : (job : JobParts) (log : List Firing) (n : Activity) (p : ℕ) (answer : Result (Option Blame) BlameError) → BlameOf job log n p answer → (IsDeterminate job.program.blocks → IsDeterminateJob job) → (IsStrict job.program.blocks → IsDeterminateJob job) → IfOk answer (BlamesByWrites job)
always_some job log n p (Ok found) at determinate strict = λ is. elim is [ inl s ↦ some_cell job log n p found at (strict s) | inr d ↦ some_cell job log n p found at (determinate d) ]
always_some job log n p (Err error) at determinate strict = tt
