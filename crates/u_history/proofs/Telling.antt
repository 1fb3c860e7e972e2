-- The entries that tell in an outcome, and that their outcome is that of all entries.
use Rattle.std.proofs.Common.{◌≡◌, ◌↔◌, ℕ, zero, suc, List, [], ◌∷◌, Contains, subst, sym, ◌∙◌, refl, Ordering}
use Rattle.std.specs.Cmp.{IsTotalOrder, tied_itself}
use Rattle.std.specs.declared.cmp.Ordering.TheVariants.{Less, Equal, Greater}
use Rattle.u_base.specs.Firing.{Same}
use Rattle.u_base.proofs.Member.{Contains-nil}
use Rattle.u_name.specs.Name.{Activity}
use Rattle.u_name.specs.Cell.{CellOf}
use Rattle.u_value.specs.declared.value.Value.{Value}
use Rattle.u_value.specs.ExactOrders.{derived_value_ties}
use Rattle.u_value.specs.contracts.value.ValueOrd.TheImpl.Laws as value_laws
use Rattle.u_base.specs.Exact.{IsExact}
use Rattle.u_sets.specs.Pairs.{HasAnother}
use Rattle.u_sets.proofs.Places.{list_of_same}
use Rattle.u_rule.specs.Parts.{token}
use Rattle.u_rule.specs.EntryOrder.{write_of, written}
use Rattle.u_rule.specs.WrittenOrder.{written_order_ties}
use Rattle.u_rule.specs.declared.parts.Fault.{Fault}
use Rattle.u_rule.specs.declared.entry.Entry.{Entry}
use Rattle.u_rule.specs.declared.entry.Entry.TheVariants as entries
use Rattle.u_rule.specs.contracts.parts.WrittenOrd.TheImpl.Laws as written_laws
use Rattle.u_rule.specs.contracts.parts.FaultOrd.TheImpl.Laws as fault_laws
use Rattle.u_history.specs.Tables.{PortTables, Contents, place_at, InTables, Matters, AreSharing}
use Rattle.u_history.specs.Orders.{value_order, written_order, fault_order}
use Rattle.u_history.specs.Outcomes.{CellPairs, PortValues, PairIn, ValueAt, HasTwo, IsCellClash, IsPortClash, cell_clash_order, port_clash_order, IsOutcome}
use Rattle.u_history.proofs.Reports.{cells_total, ports_total}

-- the pairs of a table that are not alone under their key
abbrev pub AreShared : {K V : Type 0} → List (K × V) → List (K × V) → Type 0
AreShared {K} {V} ps qs = (k : K) (v : V) → Contains qs (k, v) ↔ (Contains ps (k, v) × HasAnother (λ y. Contains ps (k, y)) v)

-- and those at the same port
shared_at : (ts us : PortTables) → AreSharing ts us → (n : ℕ) (a : Activity) (v : Value) → Contains (place_at us n) (a, v) ↔ (Contains (place_at ts n) (a, v) × HasAnother (λ y. Contains (place_at ts n) (a, y)) v)
shared_at [] [] h n a v = ((λ m. absurd (Contains-nil (a, v) m)), λ h. absurd (Contains-nil (a, v) h.0))
shared_at (t ∷ ts) (u ∷ us) h zero a v = ((λ m. absurd (Contains-nil (a, v) m)), λ h. absurd (Contains-nil (a, v) h.0))
shared_at (t ∷ ts) (u ∷ us) h (suc zero) a v = h.0.shared a v
shared_at (t ∷ ts) (u ∷ us) h (suc (suc n)) a v = shared_at ts us h.1 (suc n) a v
shared_at [] (u ∷ us) h n a v = absurd h
shared_at (t ∷ ts) [] h n a v = absurd h

module _ (t u : Contents) (tokens : AreSharing t.tokens u.tokens) (writes : AreShared t.writes u.writes) (rest : u.rest ≡ t.rest) where
  pub tells : (e : Entry) → InTables u e ↔ Matters (InTables t) e
  tells (entries.Token k) = shared_at t.tokens u.tokens tokens k.port k.activity k.value
  tells (entries.Write w) = writes w.cell (written w.writer w.value)
  tells (entries.Fault x) =
      ((λ m. subst (λ (es : List Entry). Contains es (entries.Fault x)) rest m), λ m. subst (λ (es : List Entry). Contains es (entries.Fault x)) (sym rest) m)
  tells (entries.Answer v) =
      ((λ m. subst (λ (es : List Entry). Contains es (entries.Answer v)) rest m), λ m. subst (λ (es : List Entry). Contains es (entries.Answer v)) (sym rest) m)

-- of two things one is another than x
other_of : {X : Type 0} (R : X → X → Ordering) (o : IsTotalOrder R) (exact : IsExact R) (P : X → Type 0) → HasTwo P → (x : X) → HasAnother P x
other_of R o exact P (a, b, ha, hb, q) x = at (R a x) refl
  where
    at : (r : Ordering) → R a x ≡ r → HasAnother P x
    at Less e = (a, ha, λ p. let t = subst (λ (z : _). R a z ≡ Equal) p (tied_itself o a) in absurd (cc))
    at Equal e = (b, hb, λ p. q (exact a x e ∙ sym p))
    at Greater e = (a, ha, λ p. let t = subst (λ (z : _). R a z ≡ Equal) p (tied_itself o a) in absurd (cc))

module _ (H M : Entry → Type 0) (same : (e : Entry) → M e ↔ Matters H e) where
  cell_two : (c : CellOf) → HasTwo (PairIn M c) → HasTwo (PairIn H c)
  cell_two c (a, b, ma, mb, q) = (a, b, ((same (entries.Write (write_of c a.writer a.value))).0 ma).0, ((same (entries.Write (write_of c b.writer b.value))).0 mb).0, q)

  cell_same : (c : CellOf) → HasTwo (PairIn H c) → Same (PairIn M c) (PairIn H c)
  cell_same c two x =
      let s = same (entries.Write (write_of c x.writer x.value)) in
      ((λ m. (s.0 m).0), λ h. s.1 (h, other_of written_order written_laws.total-law written_order_ties (PairIn H c) two x))

  cell_two_back : (c : CellOf) → HasTwo (PairIn H c) → HasTwo (PairIn M c)
  cell_two_back c (a, b, ha, hb, q) = (a, b, (cell_same c (a, b, ha, hb, q) a).1 ha, (cell_same c (a, b, ha, hb, q) b).1 hb, q)

  cells : Same (IsCellClash M) (IsCellClash H)
  cells r = (
    (λ k. let two = cell_two r.cell k.0 in (two, list_of_same written_order written_laws.total-law (PairIn M r.cell) (PairIn H r.cell) (cell_same r.cell two) r.pairs k.1)),
    λ k. (cell_two_back r.cell k.0, list_of_same written_order written_laws.total-law (PairIn H r.cell) (PairIn M r.cell) (λ x. let s = cell_same r.cell k.0 x in (s.1, s.0)) r.pairs k.1),
  )

  port_two : (a : Activity) (n : ℕ) → HasTwo (ValueAt M a n) → HasTwo (ValueAt H a n)
  port_two a n (v, w, mv, mw, q) = (v, w, ((same (entries.Token (token a n v))).0 mv).0, ((same (entries.Token (token a n w))).0 mw).0, q)

  port_same : (a : Activity) (n : ℕ) → HasTwo (ValueAt H a n) → Same (ValueAt M a n) (ValueAt H a n)
  port_same a n two v =
      let s = same (entries.Token (token a n v)) in
      ((λ m. (s.0 m).0), λ h. s.1 (h, other_of value_order value_laws.total-law derived_value_ties (ValueAt H a n) two v))

  port_two_back : (a : Activity) (n : ℕ) → HasTwo (ValueAt H a n) → HasTwo (ValueAt M a n)
  port_two_back a n (v, w, hv, hw, q) = (v, w, (port_same a n (v, w, hv, hw, q) v).1 hv, (port_same a n (v, w, hv, hw, q) w).1 hw, q)

  ports : Same (IsPortClash M) (IsPortClash H)
  ports r = (
    (λ k. let two = port_two r.activity r.port k.0 in (two, list_of_same value_order value_laws.total-law (ValueAt M r.activity r.port) (ValueAt H r.activity r.port) (port_same r.activity r.port two) r.values k.1)),
    λ k. (port_two_back r.activity r.port k.0, list_of_same value_order value_laws.total-law (ValueAt H r.activity r.port) (ValueAt M r.activity r.port) (λ x. let s = port_same r.activity r.port k.0 x in (s.1, s.0)) r.values k.1),
  )

  -- what tells has the outcome of all
  pub outcome_of_telling : (answers : List Value) (cs : List CellPairs) (ps : List PortValues) (faults : List Fault) → IsOutcome M answers cs ps faults → IsOutcome H answers cs ps faults
  outcome_of_telling answers cs ps faults o = record {
    all_answers = list_of_same value_order value_laws.total-law (λ v. M (entries.Answer v)) (λ v. H (entries.Answer v)) (λ v. same (entries.Answer v)) answers o.all_answers;
    all_cells = list_of_same cell_clash_order cells_total (IsCellClash M) (IsCellClash H) cells cs o.all_cells;
    all_ports = list_of_same port_clash_order ports_total (IsPortClash M) (IsPortClash H) ports ps o.all_ports;
    all_faults = list_of_same fault_order fault_laws.total-law (λ x. M (entries.Fault x)) (λ x. H (entries.Fault x)) (λ x. same (entries.Fault x)) faults o.all_faults;
  }
