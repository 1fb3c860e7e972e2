-- The entries of a history's tables: which they are, and what a put makes of them.
use Rattle.std.proofs.Common.{◌≡◌, ◌↔◌, ◌⊎◌, inl, inr, ℕ, zero, suc, ◌+◌, ◌≤◌, ◌<◌, List, [], ◌∷◌, ◌++◌, map, Contains, length, take, get_or, subst, sym, ◌∙◌, ap, refl, arith, append_assoc, append-nil}
use Rattle.std.specs.Prelude.{Bool, IsTrue, Result, Ok, Err, IfErr, IfOk, OnOk, set}
use Rattle.std.proofs.lemmas.List.Elements.{Contains-append_left, Contains-append_right, Contains-append_cases, Contains-push_cases}
use Rattle.std.proofs.lemmas.List.{take_more, take_all, length-take, map-append, length-set, get_or-set_same}
use Rattle.u_base.specs.Firing.{Same, Distinct}
use Rattle.u_sets.proofs.Keyed.{joined}
use Rattle.u_sets.proofs.Places.{one_list, irreflexive}
use Rattle.u_base.proofs.Member.{Contains-nil, Contains-head, Contains-tail, Contains-cons_cases}
use Rattle.u_name.specs.Name.{Activity}
use Rattle.u_name.specs.Cell.{CellOf}
use Rattle.u_value.specs.declared.value.Value.{Value}
use Rattle.u_sets.specs.Members.{IsWith}
use Rattle.u_sets.specs.Rising.{Rises, in_order}
use Rattle.u_sets.proofs.Listed.{rises, members, counted}
use Rattle.u_rule.specs.Parts.{TokenParts, token}
use Rattle.u_rule.specs.EntryOrder.{entry_cmp, write_of, written}
use Rattle.u_rule.specs.ExactOrders.{entry_cmp_total, entry_cmp_ties}
use Rattle.u_rule.specs.declared.parts.Written.{Written}
use Rattle.u_rule.specs.declared.parts.Write.{Write}
use Rattle.u_rule.specs.declared.entry.Entry.{Entry}
use Rattle.u_rule.specs.declared.entry.Entry.TheVariants as entries
use Rattle.u_history.specs.Tables.{PortTables, Contents, place_at, table_at, InTables, HasMore, token_entry, write_entry, listed_tokens, listed_entries, all_entries, IsOther, OthersAreOther, IsSharing, AreSharing, AreDistinct}

-- what follows of an error, if there is one
pub err_then : {T E : Type 0} (r : Result T E) (P Q : E → Type 0) → IfErr r P → ((e : E) → P e → Q e) → IfErr r Q
err_then (Ok x) P Q p f = tt
err_then (Err e) P Q p f = f e p

pub other_both : {T E : Type 0} (r : Result T E) (xs ys : List Entry) (e : Entry) → IfOk r (λ _. IsWith xs e ys) → IfErr r (λ _. ys ≡ xs) → IsOther e → ((x : Entry) → Contains xs x → IsOther x) → (x : Entry) → Contains ys x → IsOther x
other_both (Ok v) xs ys e w k o old x m = elim ((w x).0 m) [ inl a ↦ old x a | inr q ↦ subst IsOther q o ]
other_both (Err v) xs ys e w k o old x m = old x (subst (λ (zs : List Entry). Contains zs x) k m)

pub empty_of : {X : Type 0} (xs : List X) → ((x : X) → Contains xs x → ⊥) → xs ≡ []
empty_of [] h = refl
empty_of (x ∷ xs) h = absurd (h x (Contains-head x xs))

pub found_at : {X : Type 0} (xs : List X) (i : ℕ) (x y : X) → i < length xs → x ≡ get_or xs i x → x ≡ y → Contains xs y
found_at xs i x y l at e = subst (Contains xs) e (i, l, sym at)

pub none_more : {X : Type 0} (xs : List X) (i : ℕ) (x y : X) → i < length xs → x ≡ get_or xs i x → (Contains (take i xs) y → ⊥) → (x ≡ y → ⊥) → Contains (take (i + 1) xs) y → ⊥
none_more xs i x y l at old new m =
    elim (Contains-push_cases (take i xs) x y (subst (λ (zs : List _). Contains zs y) (take_more xs i x l ∙ ap (λ (z : _). take i xs ++ z ∷ []) (sym at)) m)) [ inl a ↦ old a | inr q ↦ new q ]

pub none_end : {X : Type 0} (xs : List X) (i : ℕ) (y : X) → length xs ≤ i → (Contains (take i xs) y → ⊥) → Contains xs y → ⊥
none_end xs i y l h m = h (subst (λ (zs : List _). Contains zs y) (sym (take_all i xs l)) m)

pub pair_is : (x : Written) (w : Write) → (x.writer ≡ w.writer) × (x.value ≡ w.value) → x ≡ written w.writer w.value
pair_is x w h = ap (λ (n : Activity). written n x.value) h.0 ∙ ap (λ (v : Value). written w.writer v) h.1

pub is_pair_of : (x : Written) (w : Write) → x ≡ written w.writer w.value → (x.writer ≡ w.writer) × (x.value ≡ w.value)
is_pair_of x w e = (ap (λ (y : Written). y.writer) e, ap (λ (y : Written). y.value) e)

module _ {X Y : Type 0} (f : X → Y) where
  pub mapped : (xs : List X) (x : X) → Contains xs x → Contains (map f xs) (f x)
  mapped [] x m = absurd (Contains-nil x m)
  mapped (y ∷ ys) x m =
      elim (Contains-cons_cases y x ys m) [
        | inl e ↦ subst (λ (z : X). Contains (f y ∷ map f ys) (f z)) e (Contains-head (f y) (map f ys))
        | inr n ↦ Contains-tail (f y) (f x) (map f ys) (mapped ys x n)
      ]

  pub unmapped : (xs : List X) (y : Y) → Contains (map f xs) y → (x : X) × Contains xs x × (f x ≡ y)
  unmapped [] y m = absurd (Contains-nil y m)
  unmapped (x ∷ xs) y m =
      elim (Contains-cons_cases (f x) y (map f xs) m) [
        | inl e ↦ (x, Contains-head x xs, e)
        | inr n ↦ (let r = unmapped xs y n in (r.0, Contains-tail x r.0 xs r.1, r.2))
      ]

-- at no port stands nothing
pub none_at_zero : (ts : PortTables) → place_at ts zero ≡ []
none_at_zero [] = refl
none_at_zero (t ∷ ts) = refl

-- where the table is at a place, its pairs are listed as tokens at its port
token_in : (n j m : ℕ) (ts : PortTables) (p : Activity × Value) → m ≡ n + j → Contains (place_at ts (suc j)) p → Contains (listed_tokens n ts) (token_entry m p)
token_in n j m [] p e h = absurd (Contains-nil p h)
token_in n zero m (t ∷ ts) p e h =
    let q : n ≡ m = omega (arith, e) in
    subst (λ (k : ℕ). Contains (listed_tokens n (t ∷ ts)) (token_entry k p)) q
    (Contains-append_left (map (token_entry n) t) (listed_tokens (suc n) ts) (token_entry n p) (mapped (token_entry n) t p h))
token_in n (suc j) m (t ∷ ts) p e h = Contains-append_right (map (token_entry n) t) (listed_tokens (suc n) ts) (token_entry m p) (token_in (suc n) j m ts p (omega (arith, e)) h)

-- and what is listed is a token of a table
record ListedAt (n : ℕ) (ts : PortTables) (e : Entry) : Type 0 where
  place : ℕ
  pair : Activity × Value
  there : Contains (place_at ts (suc place)) pair
  is : token_entry (n + place) pair ≡ e

token_of : (n : ℕ) (ts : PortTables) (e : Entry) → Contains (listed_tokens n ts) e → ListedAt n ts e
token_of n [] e h = absurd (Contains-nil e h)
token_of n (t ∷ ts) e h = elim (Contains-append_cases (map (token_entry n) t) (listed_tokens (suc n) ts) e h) [
  | inl a ↦ (let r = unmapped (token_entry n) t e a in record { place = 0; pair = r.0; there = r.1; is = ap (λ (k : ℕ). token_entry k r.0) (let q : n + 0 ≡ n = omega arith in q) ∙ r.2 })
  | inr b ↦ (let r = token_of (suc n) ts e b in record { place = suc (r.place); pair = r.pair; there = r.there; is = ap (λ (k : ℕ). token_entry k r.pair) (let q : n + suc (r.place) ≡ suc n + r.place = omega arith in q) ∙ r.is })
]

module _ (t : Contents) where
  abbrev behind : List Entry
  behind = map write_entry t.writes ++ t.rest

  abbrev all : List Entry
  all = listed_entries t.tokens t.writes t.rest

  held_other : (e : Entry) → Contains t.rest e → IsOther e → InTables t e
  held_other (entries.Token k) m o = absurd o
  held_other (entries.Write w) m o = absurd o
  held_other (entries.Fault x) m o = m
  held_other (entries.Answer v) m o = m

  held_token : (e : Entry) → ListedAt 1 t.tokens e → InTables t e
  held_token e r =
      let q : suc (r.place) ≡ 1 + r.place = omega arith in
      subst (InTables t) r.is (subst (λ (k : ℕ). Contains (place_at t.tokens k) r.pair) q r.there)

  held_listed : OthersAreOther t → (e : Entry) → Contains all e → InTables t e
  held_listed others e m =
      elim (Contains-append_cases (listed_tokens 1 t.tokens) behind e m) [
        | inl a ↦ held_token e (token_of 1 t.tokens e a)
        | inr d ↦ elim (Contains-append_cases (map write_entry t.writes) t.rest e d) [
          | inl a ↦ (let r = unmapped write_entry t.writes e a in subst (InTables t) r.2 r.1)
          | inr k ↦ held_other e k (others e k)
        ]
      ]

  behind_tokens : (e : Entry) → Contains behind e → Contains all e
  behind_tokens e m = Contains-append_right (listed_tokens 1 t.tokens) behind e m

  behind_writes : (e : Entry) → Contains t.rest e → Contains all e
  behind_writes e m = behind_tokens e (Contains-append_right (map write_entry t.writes) t.rest e m)

  token_listed : (n : ℕ) (a : Activity) (v : Value) → Contains (table_at t n) (a, v) → Contains all (entries.Token (token a n v))
  token_listed zero a v m = absurd (Contains-nil (a, v) (subst (λ (ps : List (Activity × Value)). Contains ps (a, v)) (none_at_zero t.tokens) m))
  token_listed (suc n) a v m =
      Contains-append_left (listed_tokens 1 t.tokens) behind (token_entry (suc n) (a, v)) (token_in 1 n (suc n) t.tokens (a, v) (omega arith) m)

  listed_held : (e : Entry) → InTables t e → Contains all e
  listed_held (entries.Token k) m = token_listed k.port k.activity k.value m
  listed_held (entries.Write w) m =
      behind_tokens (entries.Write w) (Contains-append_left (map write_entry t.writes) t.rest (entries.Write w) (mapped write_entry t.writes (w.cell, written w.writer w.value) m))
  listed_held (entries.Fault x) m = behind_writes (entries.Fault x) m
  listed_held (entries.Answer v) m = behind_writes (entries.Answer v) m

  -- the entries in order are those that the tables hold
  pub held_in : OthersAreOther t → (e : Entry) → Contains (all_entries t) e ↔ InTables t e
  held_in others e =
      let s = members entry_cmp entry_cmp_total entry_cmp_ties all e in
      ((λ m. held_listed others e (s.0 m)), λ h. s.1 (listed_held e h))

  pub all_rise : Rises entry_cmp (all_entries t)
  all_rise = rises entry_cmp entry_cmp_total entry_cmp_ties all

  pub held_at : (k : TokenParts) (n : ℕ) (a : Activity) (v : Value) → k.port ≡ n → a ≡ k.activity → v ≡ k.value → Contains (table_at t n) (a, v) ↔ InTables t (entries.Token k)
  held_at k n a v p q r = rw (q, r, p) ((λ m. m), λ m. m)

pub no_entries : (t : Contents) → OthersAreOther t → ((e : Entry) → InTables t e → ⊥) → all_entries t ≡ []
no_entries t o h = empty_of (all_entries t) (λ e m. h e ((held_in t o e).0 m))

module _ (t u : Contents) where
  pub more_entries : (e : Entry) → OthersAreOther t → OthersAreOther u → HasMore t e u → IsWith (all_entries t) e (all_entries u)
  more_entries e o q h x =
      let a = held_in t o x in
      let b = held_in u q x in (
        (λ m. elim ((h x).0 (b.0 m)) [ inl k ↦ inl (a.1 k) | inr p ↦ inr p ]),
        λ s. b.1 ((h x).1 (elim s [ inl m ↦ inl (a.0 m) | inr p ↦ inr p ])),
      )

  pub one_entry_more : (e : Entry) (n : ℕ) → OthersAreOther t → OthersAreOther u → HasMore t e u → (InTables t e → ⊥) → n ≡ length (all_entries t) → n + 1 ≡ length (all_entries u)
  one_entry_more e n o q h new c =
      let k = counted entry_cmp entry_cmp_total entry_cmp_ties (all_entries t) (all_entries u) e (all_rise t) (all_rise u) (more_entries e o q h) (λ m. new ((held_in t o e).0 m)) in
      omega arith

  module _ (k : TokenParts) (n : ℕ) (is : k.port ≡ n) (put : IsWith (table_at t n) (k.activity, k.value) (table_at u n)) (apart : (m : ℕ) → (m ≡ n) ⊎ (table_at u m ≡ table_at t m)) (writes : u.writes ≡ t.writes) (rest : u.rest ≡ t.rest) where
    held_now : InTables u (entries.Token k)
    held_now = subst (λ (m : ℕ). Contains (table_at u m) (k.activity, k.value)) (sym is) ((put (k.activity, k.value)).1 (inr refl))

    token_to : (j : TokenParts) → (j.port ≡ n) ⊎ (table_at u j.port ≡ table_at t j.port) → InTables u (entries.Token j) → InTables t (entries.Token j) ⊎ (entries.Token k ≡ entries.Token j)
    token_to j (inl e) m =
        elim ((put (j.activity, j.value)).0 (subst (λ (i : ℕ). Contains (table_at u i) (j.activity, j.value)) e m)) [
          | inl a ↦ inl (subst (λ (i : ℕ). Contains (table_at t i) (j.activity, j.value)) (sym e) a)
          | inr q ↦ inr (ap (λ (i : ℕ). entries.Token (token k.activity i k.value)) is ∙ (ap (token_entry n) q ∙ ap (λ (i : ℕ). entries.Token (token j.activity i j.value)) (sym e)))
        ]
    token_to j (inr s) m = inl (subst (λ (ps : List (Activity × Value)). Contains ps (j.activity, j.value)) s m)

    token_back : (j : TokenParts) → (j.port ≡ n) ⊎ (table_at u j.port ≡ table_at t j.port) → InTables t (entries.Token j) → InTables u (entries.Token j)
    token_back j (inl e) m =
        subst (λ (i : ℕ). Contains (table_at u i) (j.activity, j.value)) (sym e) ((put (j.activity, j.value)).1 (inl (subst (λ (i : ℕ). Contains (table_at t i) (j.activity, j.value)) e m)))
    token_back j (inr s) m = subst (λ (ps : List (Activity × Value)). Contains ps (j.activity, j.value)) (sym s) m

    pub token_more : HasMore t (entries.Token k) u
    token_more (entries.Token j) = (token_to j (apart j.port), λ s. elim s [ inl m ↦ token_back j (apart j.port) m | inr q ↦ subst (InTables u) q held_now ])
    token_more (entries.Write w) = (
      (λ m. inl (subst (λ (ps : List (CellOf × Written)). Contains ps (w.cell, written w.writer w.value)) writes m)),
      λ s. elim s [ inl m ↦ subst (λ (ps : List (CellOf × Written)). Contains ps (w.cell, written w.writer w.value)) (sym writes) m | inr q ↦ subst (InTables u) q held_now ],
    )
    token_more (entries.Fault x) = (
      (λ m. inl (subst (λ (es : List Entry). Contains es (entries.Fault x)) rest m)),
      λ s. elim s [ inl m ↦ subst (λ (es : List Entry). Contains es (entries.Fault x)) (sym rest) m | inr q ↦ subst (InTables u) q held_now ],
    )
    token_more (entries.Answer x) = (
      (λ m. inl (subst (λ (es : List Entry). Contains es (entries.Answer x)) rest m)),
      λ s. elim s [ inl m ↦ subst (λ (es : List Entry). Contains es (entries.Answer x)) (sym rest) m | inr q ↦ subst (InTables u) q held_now ],
    )

module _ (t : Contents) where
  abbrev pub with_writes : List (CellOf × Written) → Contents
  with_writes ws = record { tokens = t.tokens; writes = ws; rest = t.rest }

  abbrev pub with_rest : List Entry → Contents
  with_rest es = record { tokens = t.tokens; writes = t.writes; rest = es }

  pub write_more : (w : Write) (ws : List (CellOf × Written)) → IsWith t.writes (w.cell, written w.writer w.value) ws → HasMore t (entries.Write w) (with_writes ws)
  write_more w ws put = more
    where
      now : InTables (with_writes ws) (entries.Write w)
      now = (put (w.cell, written w.writer w.value)).1 (inr refl)

      more : HasMore t (entries.Write w) (with_writes ws)
      more (entries.Write v) = (
        (λ m. elim ((put (v.cell, written v.writer v.value)).0 m) [ inl a ↦ inl a | inr q ↦ inr (ap write_entry q) ]),
        λ s. elim s [ inl m ↦ (put (v.cell, written v.writer v.value)).1 (inl m) | inr q ↦ subst (InTables (with_writes ws)) q now ],
      )
      more (entries.Token k) = ((λ m. inl m), λ s. elim s [ inl m ↦ m | inr q ↦ subst (InTables (with_writes ws)) q now ])
      more (entries.Fault x) = ((λ m. inl m), λ s. elim s [ inl m ↦ m | inr q ↦ subst (InTables (with_writes ws)) q now ])
      more (entries.Answer v) = ((λ m. inl m), λ s. elim s [ inl m ↦ m | inr q ↦ subst (InTables (with_writes ws)) q now ])

  pub other_more : (e : Entry) (es : List Entry) → IsOther e → IsWith t.rest e es → HasMore t e (with_rest es)
  other_more e es o put = more
    where
      more : HasMore t e (with_rest es)
      more (entries.Token k) = ((λ m. inl m), λ s. elim s [ inl m ↦ m | inr q ↦ absurd (subst IsOther q o) ])
      more (entries.Write w) = ((λ m. inl m), λ s. elim s [ inl m ↦ m | inr q ↦ absurd (subst IsOther q o) ])
      more (entries.Fault x) = put (entries.Fault x)
      more (entries.Answer v) = put (entries.Answer v)

-- others stay others with one more of them
pub others_more : (xs ys : List Entry) (e : Entry) → IsOther e → IsWith xs e ys → ((x : Entry) → Contains xs x → IsOther x) → (x : Entry) → Contains ys x → IsOther x
others_more xs ys e o put old x m = elim ((put x).0 m) [ inl a ↦ old x a | inr q ↦ subst IsOther q o ]

-- the table at a place, counted from 0, is that of the port behind it

pub place_is : (ts : PortTables) (k : ℕ) (d : List (Activity × Value)) → k < length ts → place_at ts (suc k) ≡ get_or ts k d
place_is [] k d l = absurd (omega (arith, l))
place_is (t ∷ ts) zero d l = refl
place_is (t ∷ ts) (suc k) d l = place_is ts k d (omega (arith, l))

pub none_past : (ts : PortTables) (n : ℕ) → length ts < n → place_at ts n ≡ []
none_past [] n l = refl
none_past (t ∷ ts) zero l = refl
none_past (t ∷ ts) (suc zero) l = absurd (omega (arith, l))
none_past (t ∷ ts) (suc (suc n)) l = none_past ts (suc n) (omega (arith, l))

-- the table of the port behind a place is the one there
pub table_is : (ts : PortTables) (n i : ℕ) (d : List (Activity × Value)) → n ≡ suc i → i < length ts → place_at ts n ≡ get_or ts i d
table_is ts n i d e l = ap (place_at ts) e ∙ place_is ts i d l

-- another table at a place

set_here : (ts : PortTables) (i : ℕ) (new : List (Activity × Value)) → i < length ts → place_at (set ts i new) (suc i) ≡ new
set_here ts i new l = place_is (set ts i new) i new (omega (arith, l, length-set ts i new)) ∙ get_or-set_same ts i new new l

set_apart : (ts : PortTables) (i : ℕ) (new : List (Activity × Value)) (m : ℕ) → (m ≡ suc i) ⊎ (place_at (set ts i new) m ≡ place_at ts m)
set_apart [] i new m = inr refl
set_apart (t ∷ ts) zero new zero = inr refl
set_apart (t ∷ ts) zero new (suc zero) = inl refl
set_apart (t ∷ ts) zero new (suc (suc m)) = inr refl
set_apart (t ∷ ts) (suc i) new zero = inr refl
set_apart (t ∷ ts) (suc i) new (suc zero) = inr refl
set_apart (t ∷ ts) (suc i) new (suc (suc m)) = elim (set_apart ts i new (suc m)) [ inl e ↦ inl (ap suc e) | inr e ↦ inr e ]

abbrev with_table : Contents → ℕ → List (Activity × Value) → Contents
with_table t i new = record { tokens = set t.tokens i new; writes = t.writes; rest = t.rest }

pub token_put : (t : Contents) (k : TokenParts) (i : ℕ) (d new : List (Activity × Value)) → k.port ≡ suc i → i < length t.tokens → IsWith (get_or t.tokens i d) (k.activity, k.value) new → HasMore t (entries.Token k) (record { tokens = set t.tokens i new; writes = t.writes; rest = t.rest })
token_put t k i d new e l put =
    token_more t (with_table t i new) k (suc i) e (rw (table_is t.tokens (suc i) i d refl l, set_here t.tokens i new l) put) (set_apart t.tokens i new) refl refl

pub on_ok : {T E : Type 0} (r : Result T E) {P Q : Type 0} → OnOk r P → (P → Q) → OnOk r Q
on_ok (Ok x) p f = f p
on_ok (Err e) p f = tt

pub is_new : {E : Type 0} (r : Result Bool E) (ps qs : List (Activity × Value)) (p : Activity × Value) → qs ≡ ps → IfOk r (λ b. IsTrue b ↔ (Contains ps p → ⊥)) → IfOk r (λ b. IsTrue b ↔ (Contains qs p → ⊥))
is_new r ps qs p e h = subst (λ (xs : List (Activity × Value)). IfOk r (λ b. IsTrue b ↔ (Contains xs p → ⊥))) (sym e) h

pub is_under : (t : Contents) (n i : ℕ) (d : List (Activity × Value)) (p : Activity × Value) (b : Bool) → n ≡ suc i → i < length t.tokens → IsTrue b ↔ Contains (get_or t.tokens i d) p → IsTrue b ↔ Contains (table_at t n) p
is_under t n i d p b e l h = subst (λ (xs : List (Activity × Value)). IsTrue b ↔ Contains xs p) (sym (table_is t.tokens n i d e l)) h

pub values_under : (t : Contents) (n i : ℕ) (d : List (Activity × Value)) (a : Activity) (vs : List Value) → n ≡ suc i → i < length t.tokens → ((v : Value) → Contains vs v ↔ Contains (get_or t.tokens i d) (a, v)) → (v : Value) → Contains vs v ↔ Contains (table_at t n) (a, v)
values_under t n i d a vs e l h v = subst (λ (xs : List (Activity × Value)). Contains vs v ↔ Contains xs (a, v)) (sym (table_is t.tokens n i d e l)) (h v)

pub none_under : (t : Contents) (n : ℕ) (a : Activity) → place_at t.tokens n ≡ [] → (v : Value) → Contains {X = Value} [] v ↔ Contains (table_at t n) (a, v)
none_under t n a e v = ((λ m. absurd (Contains-nil v m)), λ m. absurd (Contains-nil (a, v) (subst (λ (xs : List (Activity × Value)). Contains xs (a, v)) e m)))

-- one item more
module _ {P Q : Type 0} (f : Q → Entry) (g : P → Q) (ps : List P) (i : ℕ) (p : P) (e : Entry) (old new start : List Entry) (l : i < length ps) (at : p ≡ get_or ps i p) (n : new ≡ old ++ e ∷ []) (is : e ≡ f (g p)) where
  pub mapped_more : old ≡ start ++ map f (map g (take i ps)) → new ≡ start ++ map f (map g (take (i + 1) ps))
  mapped_more all =
      n ∙ ap (λ (t : List Entry). t ++ e ∷ []) all
      ∙ append_assoc start (map f (map g (take i ps))) (e ∷ [])
      ∙ ap (λ (x : Entry). start ++ (map f (map g (take i ps)) ++ x ∷ [])) is
      ∙ ap (λ (t : List Entry). start ++ t) (sym (map-append f (map g (take i ps)) (g p ∷ [])))
      ∙ ap (λ (qs : List Q). start ++ map f qs) (sym (map-append g (take i ps) (p ∷ [])))
      ∙ ap (λ (qs : List P). start ++ map f (map g qs)) (sym (take_more ps i p l ∙ ap (λ (w : P). take i ps ++ w ∷ []) (sym at)))

pub mapped_all : {P Q : Type 0} (f : Q → Entry) (g : P → Q) (ps : List P) (i : ℕ) (out start : List Entry) → length ps ≤ i → out ≡ start ++ map f (map g (take i ps)) → out ≡ start ++ map f (map g ps)
mapped_all f g ps i out start l h = h ∙ ap (λ (qs : List _). start ++ map f (map g qs)) (take_all i ps l)

pub single_more : {P : Type 0} (f : P → Entry) (ps : List P) (i : ℕ) (p : P) (e : Entry) (old new start : List Entry) → i < length ps → p ≡ get_or ps i p → new ≡ old ++ e ∷ [] → e ≡ f p → old ≡ start ++ map f (take i ps) → new ≡ start ++ map f (take (i + 1) ps)
single_more f ps i p e old new start l at n is all =
    n ∙ ap (λ (t : List Entry). t ++ e ∷ []) all
    ∙ append_assoc start (map f (take i ps)) (e ∷ [])
    ∙ ap (λ (x : Entry). start ++ (map f (take i ps) ++ x ∷ [])) is
    ∙ ap (λ (t : List Entry). start ++ t) (sym (map-append f (take i ps) (p ∷ [])))
    ∙ ap (λ (qs : List _). start ++ map f qs) (sym (take_more ps i p l ∙ ap (λ (w : _). take i ps ++ w ∷ []) (sym at)))

pub single_all : {P : Type 0} (f : P → Entry) (ps : List P) (i : ℕ) (out start : List Entry) → length ps ≤ i → out ≡ start ++ map f (take i ps) → out ≡ start ++ map f ps
single_all f ps i out start l h = h ∙ ap (λ (qs : List _). start ++ map f qs) (take_all i ps l)

pub three : (a b c n0 n1 n2 : List Entry) → n0 ≡ a → n1 ≡ n0 ++ b → n2 ≡ n1 ++ c → n2 ≡ a ++ (b ++ c)
three a b c n0 n1 n2 p q r = rw (r, q, p) (append_assoc a b c)

pub in_order_is : (xs ys : List Entry) → Rises entry_cmp ys → Same (Contains ys) (Contains xs) → ys ≡ in_order entry_cmp xs
in_order_is xs ys r s =
    let m = members entry_cmp entry_cmp_total entry_cmp_ties xs in
    one_list entry_cmp entry_cmp_total ys (in_order entry_cmp xs) r (rises entry_cmp entry_cmp_total entry_cmp_ties xs) (λ z. ((λ h. (m z).1 ((s z).0 h)), λ h. (s z).1 ((m z).0 h)))

pub unordered_is : (xs : List Entry) → Same (Contains xs) (Contains (in_order entry_cmp xs))
unordered_is xs z = let m = members entry_cmp entry_cmp_total entry_cmp_ties xs z in (m.1, m.0)

-- where an entry stands among the tables
abbrev mark : Entry → ℕ
mark (entries.Token k) = 0
mark (entries.Write w) = 1
mark (entries.Fault x) = 2
mark (entries.Answer v) = 2

abbrev port_mark : Entry → ℕ
port_mark (entries.Token k) = k.port
port_mark e = 0

abbrev Above : ℕ → List Entry → Type 0
Above n xs = (x : Entry) → Contains xs x → n < mark x

map_distinct : {X : Type 0} (f : X → Entry) → ((a b : X) → f a ≡ f b → a ≡ b) → (xs : List X) → Distinct xs → Distinct (map f xs)
map_distinct f inj [] d = tt
map_distinct f inj (x ∷ xs) d = (
  (λ m. let r = unmapped f xs (f x) m in d.0 (subst (λ (z : _). Contains xs z) (inj r.0 x r.2) r.1)),
  map_distinct f inj xs d.1,
)

marked : {X : Type 0} (f : X → Entry) (n : ℕ) → ((x : X) → mark (f x) ≡ n) → (xs : List X) (e : Entry) → Contains (map f xs) e → mark e ≡ n
marked f n h xs e m = let r = unmapped f xs e m in subst (λ (x : Entry). mark x ≡ n) r.2 (h r.0)

above_both : (n : ℕ) (xs ys : List Entry) → Above n xs → Above n ys → Above n (xs ++ ys)
above_both n xs ys a b e m = elim (Contains-append_cases xs ys e m) [ inl k ↦ a e k | inr k ↦ b e k ]

above_of : (n k : ℕ) (xs : List Entry) → n < k → ((e : Entry) → Contains xs e → mark e ≡ k) → Above n xs
above_of n k xs l h e m = let q = h e m in omega arith

before_all : (n : ℕ) (xs ys : List Entry) → ((e : Entry) → Contains xs e → mark e ≡ n) → Above n ys → Distinct xs → Distinct ys → Distinct (xs ++ ys)
before_all n xs ys is above d e = joined xs ys d e (λ x a b. let p = is x a in let q = above x b in omega arith)

other_mark : (e : Entry) → IsOther e → mark e ≡ 2
other_mark (entries.Token k) o = absurd o
other_mark (entries.Write w) o = absurd o
other_mark (entries.Fault x) o = refl
other_mark (entries.Answer v) o = refl

abbrev token_parts : Entry → TokenParts → TokenParts
token_parts (entries.Token k) d = k
token_parts (entries.Write w) d = d
token_parts (entries.Fault x) d = d
token_parts (entries.Answer v) d = d

abbrev write_parts : Entry → Write → Write
write_parts (entries.Write w) d = w
write_parts (entries.Token k) d = d
write_parts (entries.Fault x) d = d
write_parts (entries.Answer v) d = d

one_token : (n : ℕ) (a b : Activity × Value) → token_entry n a ≡ token_entry n b → a ≡ b
one_token n a b e = ap (λ (x : Entry). ((token_parts x (token a.0 n a.1)).activity, (token_parts x (token a.0 n a.1)).value)) e

one_write : (a b : CellOf × Written) → write_entry a ≡ write_entry b → a ≡ b
one_write a b e =
    let d = write_of a.0 a.1.writer a.1.value in
    ap (λ (x : Entry). ((write_parts x d).cell, written (write_parts x d).writer (write_parts x d).value)) e

rising_distinct : (xs : List Entry) → Rises entry_cmp xs → Distinct xs
rising_distinct [] r = tt
rising_distinct (x ∷ xs) r = ((λ m. irreflexive entry_cmp entry_cmp_total x (r.0 x m)), rising_distinct xs r.1)

-- tokens of the tables from port n on lie at ports from n on
listed_from : (n : ℕ) (ts : PortTables) (e : Entry) → Contains (listed_tokens n ts) e → n ≤ port_mark e
listed_from n ts e m =
    let r = token_of n ts e m in
    let q : port_mark e ≡ n + r.place = ap port_mark (sym r.is) in
    omega (arith, q)

-- and are tokens
listed_marked : (n : ℕ) (ts : PortTables) (e : Entry) → Contains (listed_tokens n ts) e → mark e ≡ 0
listed_marked n ts e m = let r = token_of n ts e m in ap mark (sym r.is)

port_of_mapped : (n : ℕ) (ps : List (Activity × Value)) (e : Entry) → Contains (map (token_entry n) ps) e → port_mark e ≡ n
port_of_mapped n ps e m = let r = unmapped (token_entry n) ps e m in ap port_mark (sym r.2)

tokens_distinct : (n : ℕ) (ts : PortTables) → AreDistinct ts → Distinct (listed_tokens n ts)
tokens_distinct n [] d = tt
tokens_distinct n (t ∷ ts) d =
    joined (map (token_entry n) t) (listed_tokens (suc n) ts) (map_distinct (token_entry n) (one_token n) t d.0) (tokens_distinct (suc n) ts d.1)
    (λ x a b. let p = port_of_mapped n t x a in let q = listed_from (suc n) ts x b in omega (arith, p, q))

pub listed_distinct : (t : Contents) → OthersAreOther t → AreDistinct t.tokens → Distinct t.writes → Rises entry_cmp t.rest → Distinct (listed_entries t.tokens t.writes t.rest)
listed_distinct t o d w r =
    let ws = map write_entry t.writes in
    let mw = marked write_entry 1 (λ p. refl) t.writes in
    let mr : (e : Entry) → Contains t.rest e → mark e ≡ 2 = (λ e m. other_mark e (o e m)) in
    let dw = before_all 1 ws t.rest mw (above_of 1 2 t.rest (omega arith) mr) (map_distinct write_entry one_write t.writes w) (rising_distinct t.rest r) in
    before_all 0 (listed_tokens 1 t.tokens) (ws ++ t.rest) (listed_marked 1 t.tokens)
    (above_both 0 ws t.rest (above_of 0 1 ws (omega arith) mw) (above_of 0 2 t.rest (omega arith) mr))
    (tokens_distinct 1 t.tokens d) dw

-- one table more

pub listed_more : (n m : ℕ) (ts : PortTables) (t : List (Activity × Value)) → m ≡ n + length ts → listed_tokens n (ts ++ (t ∷ [])) ≡ listed_tokens n ts ++ map (token_entry m) t
listed_more n m [] t e = append-nil (map (token_entry n) t) ∙ ap (λ (k : ℕ). map (token_entry k) t) (let q : n ≡ m = omega (arith, e) in q)
listed_more n m (u ∷ ts) t e =
    ap (λ (es : List Entry). map (token_entry n) u ++ es) (listed_more (suc n) m ts t (omega (arith, e)))
    ∙ sym (append_assoc (map (token_entry n) u) (listed_tokens (suc n) ts) (map (token_entry m) t))

pub distinct_more : (ts : PortTables) (t : List (Activity × Value)) → AreDistinct ts → Distinct t → AreDistinct (ts ++ (t ∷ []))
distinct_more [] t d e = (e, tt)
distinct_more (u ∷ ts) t d e = (d.0, distinct_more ts t d.1 e)

pub sharing_more : (ts us : PortTables) (t u : List (Activity × Value)) → AreSharing ts us → IsSharing t u → AreSharing (ts ++ (t ∷ [])) (us ++ (u ∷ []))
sharing_more [] [] t u a s = (s, tt)
sharing_more (x ∷ ts) (y ∷ us) t u a s = (a.0, sharing_more ts us t u a.1 s)
sharing_more [] (y ∷ us) t u a s = absurd a
sharing_more (x ∷ ts) [] t u a s = absurd a

pub sharing_length : (ts us : PortTables) → AreSharing ts us → length us ≡ length ts
sharing_length [] [] a = refl
sharing_length (x ∷ ts) (y ∷ us) a = ap suc (sharing_length ts us a.1)
sharing_length [] (y ∷ us) a = absurd a
sharing_length (x ∷ ts) [] a = absurd a

pub sharing_distinct : (ts us : PortTables) → AreSharing ts us → AreDistinct us
sharing_distinct [] [] a = tt
sharing_distinct (x ∷ ts) (y ∷ us) a = (a.0.distinct, sharing_distinct ts us a.1)
sharing_distinct [] (y ∷ us) a = absurd a
sharing_distinct (x ∷ ts) [] a = absurd a

-- the first tables, and one more of them

one_further : (ts : PortTables) (i : ℕ) (d : List (Activity × Value)) → i < length ts → take (i + 1) ts ≡ take i ts ++ (get_or ts i d ∷ [])
one_further ts i d l = take_more ts i d l

pub listed_step : (ts : PortTables) (i : ℕ) (d : List (Activity × Value)) → i < length ts → (old new : List Entry) → old ≡ listed_tokens 1 (take i ts) → new ≡ old ++ map (token_entry (i + 1)) (get_or ts i d) → new ≡ listed_tokens 1 (take (i + 1) ts)
listed_step ts i d l old new o n =
    let t : List (Activity × Value) = get_or ts i d in
    let m : i + 1 ≡ 1 + length (take i ts) = omega (arith, l, length-take i ts) in
    n ∙ ap (λ (es : List Entry). es ++ map (token_entry (i + 1)) t) o ∙ sym (listed_more 1 (i + 1) (take i ts) t m) ∙ ap (listed_tokens 1) (sym (one_further ts i d l))

pub distinct_step : (ts : PortTables) (i : ℕ) (d : List (Activity × Value)) → i < length ts → AreDistinct (take i ts) → Distinct (get_or ts i d) → AreDistinct (take (i + 1) ts)
distinct_step ts i d l a e = subst AreDistinct (sym (one_further ts i d l)) (distinct_more (take i ts) (get_or ts i d) a e)

pub sharing_step : (ts us : PortTables) (i : ℕ) (d u : List (Activity × Value)) → i < length ts → AreSharing (take i ts) us → IsSharing (get_or ts i d) u → AreSharing (take (i + 1) ts) (us ++ (u ∷ []))
sharing_step ts us i d u l a s = subst (λ (xs : PortTables). AreSharing xs (us ++ (u ∷ []))) (sym (one_further ts i d l)) (sharing_more (take i ts) us (get_or ts i d) u a s)

pub shared_step : (ts us : PortTables) (i : ℕ) (u : List (Activity × Value)) → i < length ts → AreSharing (take i ts) us → (old new : List Entry) → old ≡ listed_tokens 1 us → new ≡ old ++ map (token_entry (i + 1)) u → new ≡ listed_tokens 1 (us ++ (u ∷ []))
shared_step ts us i u l a old new o n =
    let m : i + 1 ≡ 1 + length us = omega (arith, l, length-take i ts, sharing_length (take i ts) us a) in
    n ∙ ap (λ (es : List Entry). es ++ map (token_entry (i + 1)) u) o ∙ sym (listed_more 1 (i + 1) us u m)

-- no tables hold nothing

pub none_held : (ts : PortTables) (ws : List (CellOf × Written)) (es : List Entry) → ((i : ℕ) (d : List (Activity × Value)) → i < length ts → get_or ts i d ≡ []) → ws ≡ [] → es ≡ [] → (e : Entry) → InTables (record { tokens = ts; writes = ws; rest = es }) e → ⊥
none_held ts ws es h w r (entries.Token k) m = Contains-nil (k.activity, k.value) (subst (λ (ps : List (Activity × Value)). Contains ps (k.activity, k.value)) (none_at ts h k.port) m)
  where
    none_at : (ts : PortTables) → ((i : ℕ) (d : List (Activity × Value)) → i < length ts → get_or ts i d ≡ []) → (n : ℕ) → place_at ts n ≡ []
    none_at [] h n = refl
    none_at (t ∷ ts) h zero = refl
    none_at (t ∷ ts) h (suc zero) = h 0 [] (omega arith)
    none_at (t ∷ ts) h (suc (suc n)) = none_at ts (λ i d l. h (suc i) d (omega (arith, l))) (suc n)
none_held ts ws es h w r (entries.Write x) m = Contains-nil (x.cell, written x.writer x.value) (subst (λ (ps : List (CellOf × Written)). Contains ps (x.cell, written x.writer x.value)) w m)
none_held ts ws es h w r (entries.Fault x) m = Contains-nil (entries.Fault x) (subst (λ (xs : List Entry). Contains xs (entries.Fault x)) r m)
none_held ts ws es h w r (entries.Answer v) m = Contains-nil (entries.Answer v) (subst (λ (xs : List Entry). Contains xs (entries.Answer v)) r m)
