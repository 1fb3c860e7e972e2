-- Cells and ports with several values are those of entries that clash.
use Rattle.std.proofs.Common.{◌≡◌, ◌↔◌, ◌⊎◌, inl, inr, ℕ, List, [], ◌∷◌, map, Contains, IsTrue, Bool, subst, sym, refl, ◌∙◌, ap, Ordering}
use Rattle.std.specs.List.{AllZip}
use Rattle.u_name.specs.Name.{Activity}
use Rattle.u_name.specs.Cell.{CellOf, cell_cmp}
use Rattle.u_sets.specs.Members.{SomeOf, IsWith}
use Rattle.u_sets.specs.Rising.{Rises, IsListOf}
use Rattle.u_base.proofs.Member.{Contains-nil}
use Rattle.u_value.specs.declared.value.Value.{Value}
use Rattle.u_value.specs.contracts.value.ValueOrd.TheImpl.Laws as value_laws
use Rattle.u_rule.specs.Parts.{TokenParts, token}
use Rattle.u_rule.specs.EntryOrder.{write_of, written}
use Rattle.u_rule.specs.declared.parts.Write.{Write}
use Rattle.u_rule.specs.declared.parts.Written.{Written}
use Rattle.u_rule.specs.contracts.parts.WrittenOrd.TheImpl.Laws as written_laws
use Rattle.u_rule.specs.declared.entry.Entry.{Entry}
use Rattle.u_rule.specs.declared.entry.Entry.TheVariants as entries
use Rattle.u_history.specs.declared.clash.CellClash.{CellClash}
use Rattle.u_history.specs.declared.clash.PortClash.{PortClash}
use Rattle.u_history.specs.declared.clash.Port.{Port}
use Rattle.u_history.specs.Orders.{value_order, written_order}
use Rattle.u_history.specs.Outcomes.{CellPairs, PortValues, PairIn, ValueAt, HasTwo, IsCellClash, IsPortClash, cell_clash_order, port_clash_order}
use Rattle.u_history.specs.Places.{AtOnePlace, IsClashing, IsWriteOf, IsTokenAt}
use Rattle.u_history.specs.Clashes.{port_of, port_order, cell_pairs, port_values, HasPairsOf, HasValuesOf}
use Rattle.u_history.proofs.OneValue.{one_pair, one_value}
use Rattle.u_history.proofs.Grouped.{grouped, IsRow}

module _ (H : Entry → Type 0) where
  pub cell_of_clash : (c : CellOf) (e : Entry) → IsClashing H e → IsWriteOf c e → HasTwo (PairIn H c)
  cell_of_clash c (entries.Write w) (h, (f, g, s, q)) o = two f g s q
    where
      two : (f : Entry) → H f → AtOnePlace (entries.Write w) f → (entries.Write w ≡ f → ⊥) → HasTwo (PairIn H c)
      two (entries.Write v) g s q = (
        written w.writer w.value,
        written v.writer v.value,
        subst (λ (l : CellOf). H (entries.Write (write_of l w.writer w.value))) o h,
        subst (λ (l : CellOf). H (entries.Write (write_of l v.writer v.value))) (sym s ∙ o) g,
        λ p. q (ap (λ (x : Written). entries.Write (write_of w.cell x.writer x.value)) p ∙ ap (λ (l : CellOf). entries.Write (write_of l v.writer v.value)) s),
      )
      two f g s q = absurd s
  cell_of_clash c e k o = absurd o

  pub clash_of_cell : (c : CellOf) → HasTwo (PairIn H c) → (e : Entry) × IsClashing H e × IsWriteOf c e
  clash_of_cell c (a, b, ha, hb, q) =
      (entries.Write (write_of c a.writer a.value), (ha, (entries.Write (write_of c b.writer b.value), hb, refl, λ p. q (one_pair c a b p))), refl)

  pub port_of_clash : (p : Port) (e : Entry) → IsClashing H e → IsTokenAt p.activity p.number e → HasTwo (ValueAt H p.activity p.number)
  port_of_clash p (entries.Token t) (h, (f, g, s, q)) o = two f g s q
    where
      moved : (n : Activity) (k : ℕ) (v : Value) → n ≡ p.activity → k ≡ p.number → H (entries.Token (token n k v)) → H (entries.Token (token p.activity p.number v))
      moved n k v a b m = subst (λ (j : ℕ). H (entries.Token (token p.activity j v))) b (subst (λ (x : Activity). H (entries.Token (token x k v))) a m)

      two : (f : Entry) → H f → AtOnePlace (entries.Token t) f → (entries.Token t ≡ f → ⊥) → HasTwo (ValueAt H p.activity p.number)
      two (entries.Token v) g s q = (
        t.value,
        v.value,
        moved t.activity t.port t.value o.0 o.1 h,
        moved v.activity v.port v.value (sym s.0 ∙ o.0) (sym s.1 ∙ o.1) g,
        λ w. q (ap (λ (x : Value). entries.Token (token t.activity t.port x)) w
            ∙ (ap (λ (n : Activity). entries.Token (token n t.port v.value)) s.0 ∙ ap (λ (k : ℕ). entries.Token (token v.activity k v.value)) s.1)),
      )
      two f g s q = absurd s
  port_of_clash p e k o = absurd o

  pub clash_of_port : (p : Port) → HasTwo (ValueAt H p.activity p.number) → (e : Entry) × IsClashing H e × IsTokenAt p.activity p.number e
  clash_of_port p (a, b, ha, hb, q) =
      (entries.Token (token p.activity p.number a), (ha, (entries.Token (token p.activity p.number b), hb, (refl, refl), λ w. q (one_value p.activity p.number a b w))), (refl, refl))

-- C what is gathered of entries
module _ {C : Type 0} (Of : C → Entry → Type 0) where
  -- what was added is all that is new
  pub added_place : (e : Entry) (old new : List C) (y : C) (b : Bool) → IsTrue b → Of y e → ((x : C) → Of x e → y ≡ x) → IsWith old y new → (x : C) → Contains new x ↔ (Contains old x ⊎ (IsTrue b × Of x e))
  added_place e old new y b t o one w x =
      ((λ m. elim ((w x).0 m) [ inl a ↦ inl a | inr q ↦ inr (t, subst (λ (z : C). Of z e) q o) ]), λ s. elim s [ inl a ↦ (w x).1 (inl a) | inr q ↦ (w x).1 (inr (one x q.1)) ])

module _ {C : Type 0} (Of : C → Entry → Type 0) (es : List Entry) where
  -- one entry more
  pub step_place : (e at : Entry) (old new : List C) (b : Bool) → at ≡ e → (IsTrue b ↔ IsClashing (Contains es) at) → ((c : C) → Contains new c ↔ (Contains old c ⊎ (IsTrue b × Of c e))) → (c : C) → Contains new c ↔ (Contains old c ⊎ (IsClashing (Contains es) at × Of c at))
  step_place e at old new b is test step c = (
    (λ m. elim ((step c).0 m) [ inl a ↦ inl a | inr q ↦ inr (test.0 q.0, subst (Of c) (sym is) q.1) ]),
    λ s. elim s [ inl a ↦ (step c).1 (inl a) | inr q ↦ (step c).1 (inr (test.1 q.0, subst (Of c) is q.1)) ],
  )

  pub listed_places : (R : C → C → Ordering) (Two : C → Type 0) → ((c : C) (e : Entry) → IsClashing (Contains es) e → Of c e → Two c) → ((c : C) → Two c → (e : Entry) × IsClashing (Contains es) e × Of c e) → (xs : List C) → Rises R xs → ((c : C) → Contains xs c ↔ (Contains [] c ⊎ SomeOf es (λ e d. IsClashing (Contains es) e × Of d e) c)) → IsListOf R Two xs
  listed_places R Two two some xs up all = record { rises = up; exact = λ c. (to c, back c) }
    where
      to : (c : C) → Contains xs c → Two c
      to c m = elim ((all c).0 m) [ inl n ↦ absurd (Contains-nil c n) | inr s ↦ two c s.0 s.2.0 s.2.1 ]

      back : (c : C) → Two c → Contains xs c
      back c t = let k = some c t in (all c).1 (inr (k.0, k.1.0, (k.1, k.2)))

-- a write is of one cell, and a token at one port
pub write_is_of : (e : Entry) (w : Write) (c : CellOf) → e ≡ entries.Write w → c ≡ w.cell → IsWriteOf c e
write_is_of e w c is p = subst (IsWriteOf c) (sym is) (sym p)

pub write_of_one : (e : Entry) (w : Write) (c d : CellOf) → e ≡ entries.Write w → c ≡ w.cell → IsWriteOf d e → c ≡ d
write_of_one e w c d is p o = p ∙ subst (IsWriteOf d) is o

pub token_is_at : (e : Entry) (t : TokenParts) (p : Port) → e ≡ entries.Token t → p ≡ port_of t.activity t.port → IsTokenAt p.activity p.number e
token_is_at e t p is q = subst (IsTokenAt p.activity p.number) (sym is) (ap (λ (x : Port). x.activity) (sym q), ap (λ (x : Port). x.number) (sym q))

pub token_at_one : (e : Entry) (t : TokenParts) (p q : Port) → e ≡ entries.Token t → p ≡ port_of t.activity t.port → IsTokenAt q.activity q.number e → p ≡ q
token_at_one e t p q is h o =
    let s = subst (IsTokenAt q.activity q.number) is o in
    h ∙ (ap (λ (n : Activity). port_of n t.port) s.0 ∙ ap (λ (k : ℕ). port_of q.activity k) s.1)

zip_map : {C K R : Type 0} (f : K → R) (Q : C → R → Type 0) (cs : List C) (ks : List K) → AllZip (λ c k. Q c (f k)) cs ks → AllZip Q cs (map f ks)
zip_map f Q [] [] z = tt
zip_map f Q [] (k ∷ ks) z = absurd z
zip_map f Q (c ∷ cs) [] z = absurd z
zip_map f Q (c ∷ cs) (k ∷ ks) z = (z.0, zip_map f Q cs ks z.1)

cell_row : (a b : CellPairs) → a.cell ≡ b.cell → a.pairs ≡ b.pairs → a ≡ b
cell_row a b p q = ap (λ (c : CellOf). pairs_of c a.pairs) p ∙ ap (λ (ps : List Written). pairs_of b.cell ps) q
  where
    pairs_of : CellOf → List Written → CellPairs
    pairs_of c ps = record { cell = c; pairs = ps }

port_row : (a b : PortValues) → port_of a.activity a.port ≡ port_of b.activity b.port → a.values ≡ b.values → a ≡ b
port_row a b p q = ap (λ (k : Port). values_of k a.values) p ∙ ap (λ (vs : List Value). values_of (port_of b.activity b.port) vs) q
  where
    values_of : Port → List Value → PortValues
    values_of k vs = record { activity = k.activity; port = k.number; values = vs }

module _ (H : Entry → Type 0) where
  -- the cells in order, each with all its pairs
  pub cells_grouped : (cs : List CellOf) (ks : List CellClash) → IsListOf cell_cmp (λ c. HasTwo (PairIn H c)) cs → AllZip (HasPairsOf H) cs ks → IsListOf cell_clash_order (IsCellClash H) (map cell_pairs ks)
  cells_grouped cs ks keys z =
      grouped (λ (r : CellPairs). r.cell) (λ (r : CellPairs). r.pairs) cell_row cell_cmp written_order written_laws.total-law (PairIn H) (λ c. HasTwo (PairIn H c)) cs (map cell_pairs ks) keys
      (zip_map cell_pairs (IsRow (λ (r : CellPairs). r.cell) (λ (r : CellPairs). r.pairs) cell_row cell_cmp written_order written_laws.total-law (PairIn H)) cs ks z)

  -- the ports in order, each with all its values
  pub ports_grouped : (ps : List Port) (ks : List PortClash) → IsListOf port_order (λ (p : Port). HasTwo (ValueAt H p.activity p.number)) ps → AllZip (HasValuesOf H) ps ks → IsListOf port_clash_order (IsPortClash H) (map port_values ks)
  ports_grouped ps ks keys z =
      grouped (λ (r : PortValues). port_of r.activity r.port) (λ (r : PortValues). r.values) port_row port_order value_order value_laws.total-law (λ (p : Port). ValueAt H p.activity p.number) (λ (p : Port). HasTwo (ValueAt H p.activity p.number)) ps (map port_values ks) keys
      (zip_map port_values (IsRow (λ (r : PortValues). port_of r.activity r.port) (λ (r : PortValues). r.values) port_row port_order value_order value_laws.total-law (λ (p : Port). ValueAt H p.activity p.number)) ps ks z)
