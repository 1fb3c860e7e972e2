-- Values that are chosen one for each port: which tokens they stand for, and what these are.
use Rattle.std.proofs.Common.{◌≡◌, ◌↔◌, ◌⊎◌, inl, inr, sym, subst, ap, ◌∙◌, refl, arith, ℕ, zero, suc, ◌+◌, ◌≤◌, ◌<◌, List, [], ◌∷◌, ◌++◌, length, take, drop, get_or, ◌-◌, Contains, Option, Some, None, Result, Ok, Err}
use Rattle.std.specs.Borrow.{Bor}
use Rattle.std.proofs.lemmas.List.{append-nil, append_assoc, map-append, take_all}
use Rattle.std.proofs.Math.Seq.{take-append_seam}
use Rattle.std.proofs.lemmas.List.Elements.{Contains-append_left, Contains-append_cases}
use Rattle.u_base.proofs.Member.{Contains-nil, Contains-head, Contains-tail, Contains-cons_cases}
use Rattle.u_name.specs.Name.{Activity}
use Rattle.u_name.specs.Cell.{CellOf}
use Rattle.u_value.specs.declared.value.Value.{Value}
use Rattle.u_value.specs.declared.fault_kind.FaultKind.{FaultKind}
use Rattle.u_check.specs.Jobs.{JobParts}
use Rattle.u_rule.specs.Parts.{TokenParts, token, ValueList}
use Rattle.u_rule.specs.Rule.{tokens_from, needs_of}
use Rattle.u_rule.specs.Structures.{cell_named, read_from, write_read}
use Rattle.u_rule.specs.EntryOrder.{firing}
use Rattle.u_rule.specs.declared.entry.Entry.{Entry}
use Rattle.u_rule.specs.declared.entry.Entry.TheVariants as entries
use Rattle.u_rule.specs.declared.firing.Firing.{Firing}
use Rattle.u_rule.specs.declared.parts.Written.{Written}
use Rattle.u_rule.proofs.FiringShapes.{one_member}
use Rattle.u_sets.specs.Members.{SomeOf, AreThose}
use Rattle.u_match.specs.Keys.{IsMet, AreMetFrom, lent_lists}
use Rattle.u_match.specs.Joins.{IsKept, IsChoice, JoinsAll}
use Rattle.u_match.proofs.MetValues.{Held, same_token, own_token, met_held, held_met}

-- a port from that one on is that one, or one behind it
next : (p q : ℕ) → p ≤ q → (q ≡ p) ⊎ (p + 1 ≤ q)
next zero zero l = inl refl
next zero (suc q) l = inr (omega arith)
next (suc p) zero l = absurd (omega (arith, l))
next (suc p) (suc q) l = elim (next p q (omega (arith, l))) [ inl e ↦ inl (ap suc e) | inr k ↦ inr (omega (arith, k)) ]

-- of no list there is one choice, and of more those of one value of the first and of a choice of the others
module _ (job : JobParts) (a : Activity) (chosen : ValueList) (f : Firing) where
  renamed : (vs ws : ValueList) → vs ≡ ws → IsKept job (firing a vs None) f → IsKept job (firing a ws None) f
  renamed vs ws e k = subst (λ (xs : ValueList). IsKept job (firing a xs None) f) e k

  pub joins_none : IsKept job (firing a chosen None) f ↔ JoinsAll job a chosen [] f
  joins_none = ((λ k. ([], tt, renamed chosen (chosen ++ []) (sym (append-nil chosen)) k)), back)
    where
      back : JoinsAll job a chosen [] f → IsKept job (firing a chosen None) f
      back ([], is, k) = renamed (chosen ++ []) chosen (append-nil chosen) k
      back (v ∷ vs, is, k) = absurd is

  pub joins_more : (l : ValueList) (lists : List ValueList) → SomeOf l (λ v. JoinsAll job a (chosen ++ v ∷ []) lists) f ↔ JoinsAll job a chosen (l ∷ lists) f
  joins_more l lists = (to, back)
    where
      to : SomeOf l (λ v. JoinsAll job a (chosen ++ v ∷ []) lists) f → JoinsAll job a chosen (l ∷ lists) f
      to (v, m, (vs, is, k)) = (v ∷ vs, (m, is), renamed ((chosen ++ v ∷ []) ++ vs) (chosen ++ v ∷ vs) (append_assoc chosen (v ∷ []) vs) k)

      back : JoinsAll job a chosen (l ∷ lists) f → SomeOf l (λ v. JoinsAll job a (chosen ++ v ∷ []) lists) f
      back ([], is, k) = absurd is
      back (v ∷ vs, is, k) = (v, is.0, (vs, is.1, renamed (chosen ++ v ∷ vs) ((chosen ++ v ∷ []) ++ vs) (sym (append_assoc chosen (v ∷ []) vs)) k))

-- what a firing with no write needs are its tokens
pub needs_tokens : (a : Activity) (vs : ValueList) (e : Entry) → Contains (needs_of (firing a vs None)) e ↔ Contains (tokens_from a 1 vs) e
unfolding needs_of
needs_tokens a vs e = (
  (λ m. elim (Contains-append_cases (tokens_from a 1 vs) [] e m) [ inl k ↦ k | inr n ↦ absurd (Contains-nil e n) ]),
  (λ m. Contains-append_left (tokens_from a 1 vs) [] e m),
)

-- each of them is a token
pub is_token : (a : Activity) (p : ℕ) (vs : ValueList) (e : Entry) → Contains (tokens_from a p vs) e → (t : TokenParts) × (e ≡ entries.Token t)
is_token a p [] e m = absurd (Contains-nil e m)
is_token a p (v ∷ vs) e m = elim (Contains-cons_cases (entries.Token (token a p v)) e (tokens_from a (p + 1) vs) m) [ inl q ↦ (token a p v, sym q) | inr n ↦ is_token a (p + 1) vs e n ]

pub tokens_needed : (f : Firing) (e : Entry) → Contains (tokens_from f.activity 1 f.values) e → Contains (needs_of f) e
unfolding needs_of
tokens_needed f e m = Contains-append_left (tokens_from f.activity 1 f.values) (write_read f.values f.write) e m

no_token : (t : TokenParts) (r : Result CellOf FaultKind) (w : Written) → Contains (read_from r w) (entries.Token t) → ⊥
no_token t (Ok cell) w m = let e = (one_member _ (entries.Token t)).0 m in cc
no_token t (Err _) w m = Contains-nil (entries.Token t) m

no_token_read : (t : TokenParts) (vs : ValueList) (w : Option Written) → Contains (write_read vs w) (entries.Token t) → ⊥
no_token_read t vs None m = Contains-nil (entries.Token t) m
no_token_read t vs (Some w) m = no_token t (cell_named vs) w m

pub needed_token : (f : Firing) (t : TokenParts) → Contains (needs_of f) (entries.Token t) → Contains (tokens_from f.activity 1 f.values) (entries.Token t)
unfolding needs_of
needed_token f t m = elim (Contains-append_cases (tokens_from f.activity 1 f.values) (write_read f.values f.write) (entries.Token t) m) [ inl k ↦ k | inr n ↦ absurd (no_token_read t f.values f.write n) ]

-- the token is of that activity, and lies at one of so many ports from that one on
pub record IsAmong (t : TokenParts) (a : Activity) (p n : ℕ) : Type 0 where
  pub activity : a ≡ t.activity
  pub from : p ≤ t.port
  pub to : t.port < p + n

pub its_place : (t : TokenParts) (a : Activity) (p : ℕ) (vs : ValueList) → Contains (tokens_from a p vs) (entries.Token t) → IsAmong t a p (length vs)
its_place t a p [] m = absurd (Contains-nil (entries.Token t) m)
its_place t a p (v ∷ vs) m = elim (Contains-cons_cases (entries.Token (token a p v)) (entries.Token t) (tokens_from a (p + 1) vs) m) [ inl e ↦ here e | inr n ↦ behind (its_place t a (p + 1) vs n) ]
  where
    here : entries.Token (token a p v) ≡ entries.Token t → IsAmong t a p (length (v ∷ vs))
    here e =
        let h = same_token (token a p v) t e in
        let q : p ≡ t.port = ap (λ (x : TokenParts). x.port) h in
        record { activity = ap (λ (x : TokenParts). x.activity) h; from = omega (arith, q); to = omega (arith, q) }

    behind : IsAmong t a (p + 1) (length vs) → IsAmong t a p (length (v ∷ vs))
    behind r = let l = r.from in let k = r.to in record { activity = r.activity; from = omega (arith, l); to = omega (arith, k) }

module _ (H : Entry → Type 0) (t : TokenParts) where
  -- one list more
  pub met_more : (p : ℕ) (lists : List ValueList) (l : ValueList) → AreMetFrom H t p lists → AreThose (IsMet H t (p + length lists)) l → AreMetFrom H t p (lists ++ l ∷ [])
  met_more p [] l met h = (subst (λ (n : ℕ). AreThose (IsMet H t n) l) (let e : p + 0 ≡ p = omega arith in e) h, tt)
  met_more p (m ∷ lists) l met h = (met.0, met_more (p + 1) lists l met.1 (subst (λ (n : ℕ). AreThose (IsMet H t n) l) (let e : p + length (m ∷ lists) ≡ p + 1 + length lists = omega arith in e) h))

  -- the token is among those of what is chosen
  pub own_chosen : (p : ℕ) (lists : List ValueList) (vs : ValueList) → AreMetFrom H t p lists → IsChoice lists vs → p ≤ t.port → t.port < p + length vs → Contains (tokens_from t.activity p vs) (entries.Token t)
  own_chosen p lists [] met is low high = absurd (omega (arith, low, high))
  own_chosen p [] (v ∷ vs) met is low high = absurd is
  own_chosen p (l ∷ lists) (v ∷ vs) met is low high = elim (next p t.port low) [
    | inl e ↦ here e
    | inr k ↦ behind (own_chosen (p + 1) lists vs met.1 is.1 k (omega (arith, high)))
  ]
    where
      here : t.port ≡ p → Contains (tokens_from t.activity p (v ∷ vs)) (entries.Token t)
      here e =
          subst (λ (x : Entry). Contains (tokens_from t.activity p (v ∷ vs)) x) (own_token H t p v e ((met.0 v).0 is.0))
          (Contains-head (entries.Token (token t.activity p v)) (tokens_from t.activity (p + 1) vs))

      behind : Contains (tokens_from t.activity (p + 1) vs) (entries.Token t) → Contains (tokens_from t.activity p (v ∷ vs)) (entries.Token t)
      behind m = Contains-tail (entries.Token (token t.activity p v)) (entries.Token t) (tokens_from t.activity (p + 1) vs) m

  -- each of them is held
  pub held_chosen : (p : ℕ) (lists : List ValueList) (vs : ValueList) → AreMetFrom H t p lists → IsChoice lists vs → (e : Entry) → Contains (tokens_from t.activity p vs) e → Held H t e
  held_chosen p lists [] met is e m = absurd (Contains-nil e m)
  held_chosen p [] (v ∷ vs) met is e m = absurd is
  held_chosen p (l ∷ lists) (v ∷ vs) met is e m =
      elim (Contains-cons_cases (entries.Token (token t.activity p v)) e (tokens_from t.activity (p + 1) vs) m)
      [ inl q ↦ subst (Held H t) q (met_held H t p v ((met.0 v).0 is.0)) | inr n ↦ held_chosen (p + 1) lists vs met.1 is.1 e n ]

  -- and where each is held and the token among them, or before them, they are chosen
  pub chosen_of : (p : ℕ) (lists : List ValueList) (vs : ValueList) → AreMetFrom H t p lists → length lists ≡ length vs → ((e : Entry) → Contains (tokens_from t.activity p vs) e → Held H t e)
      → (t.port < p) ⊎ Contains (tokens_from t.activity p vs) (entries.Token t) → IsChoice lists vs
  chosen_of p [] [] met n all own = tt
  chosen_of p [] (v ∷ vs) met n all own = absurd (omega (arith, n))
  chosen_of p (l ∷ lists) [] met n all own = absurd (omega (arith, n))
  chosen_of p (l ∷ lists) (v ∷ vs) met n all own =
      by (λ left. chosen_of (p + 1) lists vs met.1 (omega (arith, n)) (λ e m. all e (Contains-tail (entries.Token (token t.activity p v)) e (tokens_from t.activity (p + 1) vs) m)) left) (split own)
    where
      rest : List Entry
      rest = tokens_from t.activity (p + 1) vs

      split : (t.port < p) ⊎ Contains (tokens_from t.activity p (v ∷ vs)) (entries.Token t) → (t.port < p) ⊎ ((entries.Token (token t.activity p v) ≡ entries.Token t) ⊎ Contains rest (entries.Token t))
      split (inl k) = inl k
      split (inr m) = inr (Contains-cons_cases (entries.Token (token t.activity p v)) (entries.Token t) rest m)

      first : (t.port ≡ p → t.value ≡ v) → Contains l v
      first one = (met.0 v).1 (held_met H t p v (all (entries.Token (token t.activity p v)) (Contains-head (entries.Token (token t.activity p v)) rest)) one)

      by : ((t.port < p + 1) ⊎ Contains rest (entries.Token t) → IsChoice lists vs) → (t.port < p) ⊎ ((entries.Token (token t.activity p v) ≡ entries.Token t) ⊎ Contains rest (entries.Token t)) → IsChoice (l ∷ lists) (v ∷ vs)
      by others (inl k) = (first (λ e. absurd (omega (arith, k, e))), others (inl (omega (arith, k))))
      by others (inr (inl e)) =
          let h = same_token (token t.activity p v) t e in
          let q : p ≡ t.port = ap (λ (x : TokenParts). x.port) h in
          (first (λ _. sym (ap (λ (x : TokenParts). x.value) h)), others (inl (omega (arith, q))))
      by others (inr (inr m)) =
          let low = (its_place t t.activity (p + 1) vs m).from in
          (first (λ e. absurd (omega (arith, low, e))), others (inr m))

-- the lists that references point to
pub lent_all : (lists : List (Bor ValueList)) (l : Bor ValueList) → lent_lists (lists ++ l ∷ []) ≡ lent_lists lists ++ l.now ∷ []
lent_all lists l = map-append (λ (x : Bor ValueList). x.now) lists (l ∷ [])

pub lent_count : (lists : List (Bor ValueList)) → length (lent_lists lists) ≡ length lists
lent_count [] = refl
lent_count (l ∷ lists) = let h = lent_count lists in omega arith

pub lent_none : (lists : List (Bor ValueList)) → length lists < 1 → lent_lists lists ≡ []
lent_none [] l = refl
lent_none (x ∷ lists) l = absurd (omega (arith, l))

-- the first of them, and the others
pub lent_split : (lists : List (Bor ValueList)) (d : Bor ValueList) → 1 ≤ length lists → d ≡ get_or lists 0 d → lent_lists lists ≡ d.now ∷ lent_lists (take (length lists - 1) (drop 1 lists))
lent_split [] d l e = absurd (omega (arith, l))
lent_split (x ∷ lists) d l e =
    let whole : take (length (x ∷ lists) - 1) lists ≡ lists = take_all (length (x ∷ lists) - 1) lists (omega arith) in
    ap (λ (y : Bor ValueList). y.now ∷ lent_lists lists) (sym e) ∙ ap (λ (ls : List (Bor ValueList)). d.now ∷ lent_lists ls) (sym whole)

-- one more, and that one less
pub length_more : {X : Type 0} (xs : List X) (x : X) → length (xs ++ x ∷ []) ≡ length xs + 1
length_more [] x = refl
length_more (y ∷ xs) x = let h = length_more xs x in omega arith

pub popped : (old now new : ValueList) (v : Value) (len : ℕ) → now ≡ old ++ v ∷ [] → len ≡ length now → new ≡ take (len - 1) now → new ≡ old
popped old now new v len e n p =
    let more = length_more old v in
    let count = ap length e in
    let one_less : len - 1 ≡ length old = omega (arith, n, more, count) in
    p ∙ ap (λ (xs : ValueList). take (len - 1) xs) e ∙ ap (λ (k : ℕ). take k (old ++ v ∷ [])) one_less ∙ take-append_seam old (v ∷ [])
