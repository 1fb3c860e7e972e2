-- Keys in order, each with the list of what it has, are the list of exactly such rows.
use Rattle.std.proofs.Common.{◌≡◌, inl, inr, ℕ, ◌<◌, ◌+◌, List, [], ◌∷◌, ◌++◌, take, get_or, length, Contains, subst, sym, ◌∙◌, Ordering}
use Rattle.std.specs.List.{AllZip}
use Rattle.std.proofs.lemmas.List.{take_more}
use Rattle.std.proofs.lemmas.Slice.Zip.{all_zipped_more}
use Rattle.std.specs.Cmp.{IsTotalOrder}
use Rattle.std.specs.declared.cmp.Ordering.TheVariants.{Less}
use Rattle.u_sets.specs.Rising.{Rises, IsListOf}
use Rattle.u_base.proofs.Member.{Contains-nil, Contains-head, Contains-tail, Contains-cons_cases}
use Rattle.u_sets.proofs.Places.{one_list_of}

-- one row more
pub row_more : {C K : Type 0} (Q : C → K → Type 0) (cs : List C) (ks : List K) (i : ℕ) (c : C) (k : K) → i < length cs → c ≡ get_or cs i c → AllZip Q (take i cs) ks → Q c k → AllZip Q (take (i + 1) cs) (ks ++ k ∷ [])
row_more Q cs ks i c k l at z q = rw (take_more cs i c l, ← at) (all_zipped_more Q (take i cs) ks c k z q)

-- C keys, R rows, X what a row lists
module _ {C R X : Type 0} (key : R → C) (list : R → List X) (one : (a b : R) → key a ≡ key b → list a ≡ list b → a ≡ b) (O : C → C → Ordering) (L : X → X → Ordering) (total : IsTotalOrder L) (In : C → X → Type 0) where
  abbrev pub IsRow : C → R → Type 0
  IsRow c r = (key r ≡ c) × IsListOf L (In c) (list r)

  row_of : (cs : List C) (rs : List R) → AllZip IsRow cs rs → (r : R) → Contains rs r → Contains cs (key r) × IsListOf L (In (key r)) (list r)
  row_of [] [] z r m = absurd (Contains-nil r m)
  row_of [] (s ∷ rs) z r m = absurd z
  row_of (c ∷ cs) [] z r m = absurd z
  row_of (c ∷ cs) (s ∷ rs) z r m =
      elim (Contains-cons_cases s r rs m) [
        | inl e ↦ subst (λ (x : R). Contains (c ∷ cs) (key x) × IsListOf L (In (key x)) (list x)) e
            (subst (Contains (c ∷ cs)) (sym z.0.0) (Contains-head c cs), subst (λ (x : C). IsListOf L (In x) (list s)) (sym z.0.0) z.0.1)
        | inr n ↦ (let t = row_of cs rs z.1 r n in (Contains-tail c (key r) cs t.0, t.1))
      ]

  key_of : (cs : List C) (rs : List R) → AllZip IsRow cs rs → (c : C) → Contains cs c → (r : R) × Contains rs r × (key r ≡ c)
  key_of [] rs z c m = absurd (Contains-nil c m)
  key_of (d ∷ cs) [] z c m = absurd z
  key_of (d ∷ cs) (s ∷ rs) z c m =
      elim (Contains-cons_cases d c cs m) [
        | inl e ↦ (s, Contains-head s rs, z.0.0 ∙ e)
        | inr n ↦ (let t = key_of cs rs z.1 c n in (t.0, Contains-tail s t.0 rs t.1, t.2))
      ]

  rows_rise : (cs : List C) (rs : List R) → AllZip IsRow cs rs → Rises O cs → Rises (λ a b. O (key a) (key b)) rs
  rows_rise [] [] z up = tt
  rows_rise [] (s ∷ rs) z up = absurd z
  rows_rise (c ∷ cs) [] z up = absurd z
  rows_rise (c ∷ cs) (s ∷ rs) z up =
      ((λ r m. subst (λ (x : C). O x (key r) ≡ Less) (sym z.0.0) (up.0 (key r) (row_of cs rs z.1 r m).0)), rows_rise cs rs z.1 up.1)

  pub grouped : (Two : C → Type 0) (cs : List C) (rs : List R) → IsListOf O Two cs → AllZip IsRow cs rs → IsListOf (λ a b. O (key a) (key b)) (λ r. Two (key r) × IsListOf L (In (key r)) (list r)) rs
  grouped Two cs rs keys z = record { rises = rows_rise cs rs z keys.rises; exact = λ r. (to r, back r) }
    where
      to : (r : R) → Contains rs r → Two (key r) × IsListOf L (In (key r)) (list r)
      to r m = let t = row_of cs rs z r m in ((keys.exact (key r)).0 t.0, t.1)

      back : (r : R) → Two (key r) × IsListOf L (In (key r)) (list r) → Contains rs r
      back r h =
          let k = key_of cs rs z (key r) ((keys.exact (key r)).1 h.0) in
          let t = row_of cs rs z k.0 k.1 in
          let same = one_list_of L total (In (key r)) (In (key r)) (λ x. ((λ m. m), λ m. m)) (list k.0) (list r) (subst (λ (x : C). IsListOf L (In x) (list k.0)) k.2 t.1) h.1 in
          subst (Contains rs) (one k.0 r k.2 same) k.1
