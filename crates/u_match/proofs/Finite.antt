-- The firings that a token wakes are those of a list, which nothing makes.
use Rattle.std.proofs.Common.{◌≡◌, ◌↔◌, ◌⊎◌, inl, inr, sym, subst, ap, refl, ℕ, ◌<◌, List, [], ◌∷◌, ◌++◌, length, get_or, Bool, true, false, IsTrue, Contains, Result, Ok, Err, Option, Some, None}
use Rattle.std.specs.Prelude.{IfErr}
use Rattle.std.specs.Ordering.{is_eq}
use Rattle.std.proofs.lemmas.Result.{IfErr-weaker}
use Rattle.std.proofs.lemmas.List.Elements.{Contains-append_left, Contains-append_right, Contains-append_cases}
use Rattle.u_name.specs.Name.{Activity}
use Rattle.u_name.specs.Cell.{CellOf}
use Rattle.u_value.specs.declared.value.Value.{Value}
use Rattle.u_value.specs.declared.fault_kind.FaultKind.{FaultKind}
use Rattle.u_check.specs.Jobs.{JobParts}
use Rattle.u_rule.specs.Parts.{TokenParts, ValueList}
use Rattle.u_program.specs.Parts.{StatementParts}
use Rattle.u_rule.specs.Fits.{statement_of}
use Rattle.u_rule.specs.Replies.{told_to}
use Rattle.u_rule.specs.Rule.{is_own_of}
use Rattle.u_rule.specs.EntryOrder.{entry_cmp, firing, write_of, written}
use Rattle.u_rule.specs.Structures.{cell_named}
use Rattle.u_rule.specs.declared.entry.Entry.{Entry}
use Rattle.u_rule.specs.declared.entry.Entry.TheVariants as entries
use Rattle.u_rule.specs.declared.firing.Firing.{Firing}
use Rattle.u_rule.specs.declared.parts.Written.{Written}
use Rattle.u_rule.specs.declared.parts.Write.{Write}
use Rattle.u_rule.proofs.FiringShapes.{one_member}
use Rattle.u_sets.specs.Members.{SomeOf, AreThose, Gains}
use Rattle.u_sets.proofs.Rounds.{member_at}
use Rattle.u_base.proofs.Member.{Contains-nil, Contains-head, Contains-tail, Contains-cons_cases}
use Rattle.u_history.specs.Outcomes.{PairIn}
use Rattle.u_match.specs.declared.halt.Halt.{Halt}
use Rattle.u_match.specs.declared.halt.Halt.TheVariants.{TooMany}
use Rattle.u_match.specs.Finite.{HasSome}
use Rattle.u_match.specs.Joins.{IsSame, IsSomeSame, IsKept, IsOne, IsTwo, IsReading, ReadsCell, JoinsTwo, JoinsSome, JoinsAll}
use Rattle.u_match.specs.Waking.{WakesSome}
use Rattle.u_match.proofs.Choices.{joins_none, joins_more}
use Rattle.u_match.proofs.MetValues.{Held}
use Rattle.u_match.proofs.Made.{Woken}
use Rattle.u_match.proofs.Wakes.{same_entry}
use Rattle.u_match.proofs.Steps.{told_made, kept_is}

-- some has P of a member of the list
pub some_at : {Y F : Type 0} (P : Y → F → Type 0) (ys : List Y) (i : ℕ) (y : Y) → i < length ys → y ≡ get_or ys i y → HasSome (P y) → HasSome (SomeOf ys P)
some_at P ys i y l is (f, p) = (f, (y, member_at ys i y l is, p))

-- the firing, by another name
pub some_renamed : (job : JobParts) (g h : Firing) → g ≡ h → HasSome (IsKept job g) → HasSome (IsKept job h)
some_renamed job g h e s = subst (λ (x : Firing). HasSome (IsKept job x)) e s

-- what holds where there would be too many makes what it implies hold then
pub too_many : {T : Type 0} (r : Result T Halt) (A B : Type 0) → (A → B) → IfErr r (λ e. e ≡ TooMany → A) → IfErr r (λ e. e ≡ TooMany → B)
too_many r A B f h = IfErr-weaker r (λ e. e ≡ TooMany → A) (λ e. e ≡ TooMany → B) (λ e k is. f (k is)) h

-- there is a list of exactly those with P
abbrev pub Finite : {X : Type 0} → (X → Type 0) → Type 0
Finite {X} P = (xs : List X) × AreThose P xs

module _ {X : Type 0} where
  none : (P : X → Type 0) → ((x : X) → P x → ⊥) → Finite P
  none P never = ([], λ x. ((λ m. absurd (Contains-nil x m)), λ p. absurd (never x p)))

  alike : (P Q : X → Type 0) → ((x : X) → P x ↔ Q x) → Finite P → Finite Q
  alike P Q s (xs, p) = (xs, λ x. ((λ m. (s x).0 ((p x).0 m)), λ k. (p x).1 ((s x).1 k)))

  either : (P Q : X → Type 0) → Finite P → Finite Q → Finite (λ x. P x ⊎ Q x)
  either P Q (xs, p) (ys, q) = (xs ++ ys, λ x. (to x, back x))
    where
      to : (x : X) → Contains (xs ++ ys) x → P x ⊎ Q x
      to x m = elim (Contains-append_cases xs ys x m) [ inl k ↦ inl ((p x).0 k) | inr k ↦ inr ((q x).0 k) ]

      back : (x : X) → P x ⊎ Q x → Contains (xs ++ ys) x
      back x (inl k) = Contains-append_left xs ys x ((p x).1 k)
      back x (inr k) = Contains-append_right xs ys x ((q x).1 k)

  some : {Y : Type 0} (P : Y → X → Type 0) → ((y : Y) → Finite (P y)) → (ys : List Y) → Finite (SomeOf ys P)
  some P each [] = none (SomeOf [] P) (λ x (y, m, p). Contains-nil y m)
  some {Y} P each (y ∷ ys) = alike (λ x. P y x ⊎ SomeOf ys P x) (SomeOf (y ∷ ys) P) (λ x. (to x, back x)) (either (P y) (SomeOf ys P) (each y) (some P each ys))
    where
      to : (x : X) → P y x ⊎ SomeOf ys P x → SomeOf (y ∷ ys) P x
      to x (inl p) = (y, Contains-head y ys, p)
      to x (inr (z, m, p)) = (z, Contains-tail y z ys m, p)

      back : (x : X) → SomeOf (y ∷ ys) P x → P y x ⊎ SomeOf ys P x
      back x (z, m, p) = elim (Contains-cons_cases y z ys m) [ inl e ↦ inl (subst (λ (w : Y). P w x) (sym e) p) | inr k ↦ inr (z, k, p) ]

-- the firing, or none
same : (job : JobParts) (g : Firing) → Finite (IsSame job g)
same job g = at (is_own_of job g) refl
  where
    moved : (f : Firing) → g ≡ f → IsTrue (is_own_of job g) ↔ IsTrue (is_own_of job f)
    moved f e = (subst (λ (x : Firing). IsTrue (is_own_of job x)) e, subst (λ (x : Firing). IsTrue (is_own_of job x)) (sym e))

    at : (b : Bool) → is_own_of job g ≡ b → Finite (IsSame job g)
    at true e = (g ∷ [], λ f. ((λ m. let h = (one_member g f).0 m in (h, (moved f h).0 e)), λ k. (one_member g f).1 k.0))
    at false e = none (IsSame job g) (λ f k. let h = (moved f k.0).1 k.1 in cc)

-- the reply, or none
some_same : (job : JobParts) (o : Option Firing) → Finite (IsSomeSame job o)
some_same job None = none (IsSomeSame job None) (λ f k. k)
some_same job (Some g) = same job g

-- the firing and the reply that the table has to it
kept : (job : JobParts) (g : Firing) → Finite (IsKept job g)
kept job g = at (statement_of job.program.blocks g.activity.block g.activity.statement) refl
  where
    at : (o : Option StatementParts) → statement_of job.program.blocks g.activity.block g.activity.statement ≡ o → Finite (IsKept job g)
    at (Some s) e =
        let o = told_to job.table s.kind g in
        alike (λ f. IsSame job g f ⊎ IsSomeSame job o f) (IsKept job g) (λ f. (to f, kept_is job g s e o refl f)) (either (IsSame job g) (IsSomeSame job o) (same job g) (some_same job o))
      where
        to : (f : Firing) → IsSame job g f ⊎ IsSomeSame job (told_to job.table s.kind g) f → IsKept job g f
        to f (inl k) = (inl k.0, k.1)
        to f (inr k) = told_made job g s e (told_to job.table s.kind g) refl f k
    at None e = alike (IsSame job g) (IsKept job g) (λ f. ((λ k. (inl k.0, k.1)), back f)) (same job g)
      where
        back : (f : Firing) → IsKept job g f → IsSame job g f
        back f (inl q, is) = (q, is)
        back f (inr (t, q), is) =
            let there : statement_of job.program.blocks f.activity.block f.activity.statement ≡ None = subst (λ (x : Firing). statement_of job.program.blocks x.activity.block x.activity.statement ≡ None) q e in
            (let p = t.reply.stands in absurd (cc))

-- the writer and the value of an entry that is a write of the cell
pair_in : (cell : CellOf) (e : Entry) → Finite (λ (x : Written). e ≡ entries.Write (write_of cell x.writer x.value))
pair_in cell (entries.Write w) = at (is_eq (entry_cmp (entries.Write w) (entries.Write (write_of cell w.writer w.value)))) refl
  where
    same_write : (y z : Write) → entries.Write y ≡ entries.Write z → y ≡ z
    same_write y z e = cc

    own : (x : Written) → entries.Write w ≡ entries.Write (write_of cell x.writer x.value) → written w.writer w.value ≡ x
    own x e = ap (λ (z : Write). written z.writer z.value) (same_write w (write_of cell x.writer x.value) e)

    moved : (x y : Written) → x ≡ y → entries.Write w ≡ entries.Write (write_of cell x.writer x.value) → entries.Write w ≡ entries.Write (write_of cell y.writer y.value)
    moved x y e h = subst (λ (z : Written). entries.Write w ≡ entries.Write (write_of cell z.writer z.value)) e h

    at : (b : Bool) → is_eq (entry_cmp (entries.Write w) (entries.Write (write_of cell w.writer w.value))) ≡ b → Finite (λ (x : Written). entries.Write w ≡ entries.Write (write_of cell x.writer x.value))
    at true e =
        let h = (same_entry (entries.Write w) (entries.Write (write_of cell w.writer w.value))).0 e in
        (written w.writer w.value ∷ [], λ x. ((λ m. moved (written w.writer w.value) x ((one_member (written w.writer w.value) x).0 m) h), λ k. (one_member (written w.writer w.value) x).1 (own x k)))
    at false e =
        none (λ (x : Written). entries.Write w ≡ entries.Write (write_of cell x.writer x.value))
        (λ x k. let h = (same_entry (entries.Write w) (entries.Write (write_of cell w.writer w.value))).1 (moved x (written w.writer w.value) (sym (own x k)) k) in cc)
pair_in cell (entries.Token t) = none (λ (x : Written). entries.Token t ≡ entries.Write (write_of cell x.writer x.value)) (λ x k. cc)
pair_in cell (entries.Fault t) = none (λ (x : Written). entries.Fault t ≡ entries.Write (write_of cell x.writer x.value)) (λ x k. cc)
pair_in cell (entries.Answer v) = none (λ (x : Written). entries.Answer v ≡ entries.Write (write_of cell x.writer x.value)) (λ x k. cc)

-- the writes of a cell
pairs : (cell : CellOf) (es : List Entry) → Finite (PairIn (Contains es) cell)
pairs cell [] = none (PairIn (Contains []) cell) (λ x m. Contains-nil (entries.Write (write_of cell x.writer x.value)) m)
pairs cell (e ∷ es) =
    alike (λ (x : Written). (e ≡ entries.Write (write_of cell x.writer x.value)) ⊎ PairIn (Contains es) cell x) (PairIn (Contains (e ∷ es)) cell) (λ x. (to x, back x))
    (either (λ (x : Written). e ≡ entries.Write (write_of cell x.writer x.value)) (PairIn (Contains es) cell) (pair_in cell e) (pairs cell es))
  where
    to : (x : Written) → (e ≡ entries.Write (write_of cell x.writer x.value)) ⊎ PairIn (Contains es) cell x → PairIn (Contains (e ∷ es)) cell x
    to x (inl k) = subst (λ (y : Entry). Contains (e ∷ es) y) k (Contains-head e es)
    to x (inr k) = Contains-tail e (entries.Write (write_of cell x.writer x.value)) es k

    back : (x : Written) → PairIn (Contains (e ∷ es)) cell x → (e ≡ entries.Write (write_of cell x.writer x.value)) ⊎ PairIn (Contains es) cell x
    back x m = Contains-cons_cases e (entries.Write (write_of cell x.writer x.value)) es m

module _ (job : JobParts) (a : Activity) (es : List Entry) where
  reads : (v w : Value) → Finite (ReadsCell job (Contains es) a v w)
  reads v w = at (cell_named (v ∷ w ∷ [])) refl
    where
      at : (r : Result CellOf FaultKind) → cell_named (v ∷ w ∷ []) ≡ r → Finite (ReadsCell job (Contains es) a v w)
      at (Err k) e = none (ReadsCell job (Contains es) a v w) (λ f (c, n, s). cc)
      at (Ok cell) e =
          alike (SomeOf (pairs cell es).0 (IsReading job a v w)) (ReadsCell job (Contains es) a v w) (λ f. (to f, back f))
          (some (IsReading job a v w) (λ x. kept job (firing a (v ∷ w ∷ []) (Some x))) (pairs cell es).0)
        where
          to : (f : Firing) → SomeOf (pairs cell es).0 (IsReading job a v w) f → ReadsCell job (Contains es) a v w f
          to f (x, m, k) = (cell, e, (x, ((pairs cell es).1 x).0 m, k))

          same_cell : (c : CellOf) → cell_named (v ∷ w ∷ []) ≡ Ok c → c ≡ cell
          same_cell c n = cc

          back : (f : Firing) → ReadsCell job (Contains es) a v w f → SomeOf (pairs cell es).0 (IsReading job a v w) f
          back f (c, n, (x, h, k)) = (x, ((pairs cell es).1 x).1 (subst (λ (y : CellOf). PairIn (Contains es) y x) (same_cell c n) h), k)

  two : (v w : Value) → Finite (JoinsTwo job (Contains es) a v w)
  two v w = either (IsTwo job a v w) (ReadsCell job (Contains es) a v w) (kept job (firing a (v ∷ w ∷ []) None)) (reads v w)

  pub ones : (firsts : List Value) → Finite (SomeOf firsts (IsOne job a))
  ones firsts = some (IsOne job a) (λ v. kept job (firing a (v ∷ []) None)) firsts

  pub twos : (firsts seconds : List Value) → Finite (SomeOf firsts (JoinsSome job (Contains es) a seconds))
  twos firsts seconds = some (JoinsSome job (Contains es) a seconds) (λ v. some (JoinsTwo job (Contains es) a v) (two v) seconds) firsts

  pub alls : (chosen : ValueList) (lists : List ValueList) → Finite (JoinsAll job a chosen lists)
  alls chosen [] = alike (IsKept job (firing a chosen None)) (JoinsAll job a chosen []) (joins_none job a chosen) (kept job (firing a chosen None))
  alls chosen (l ∷ lists) =
      alike (SomeOf l (λ v. JoinsAll job a (chosen ++ v ∷ []) lists)) (JoinsAll job a chosen (l ∷ lists)) (λ f. joins_more job a chosen f l lists)
      (some (λ v. JoinsAll job a (chosen ++ v ∷ []) lists) (λ v. alls (chosen ++ v ∷ []) lists) l)

-- a token that wakes what has P wakes those of a list that has some, where something has P
pub wakes_some : (H : Entry → Type 0) (t : TokenParts) (job : JobParts) (P : Firing → Type 0) → ((found : List Firing) → Gains [] P found → AreThose (Woken H t job) found) → Finite P → HasSome P → WakesSome job (entries.Token t) (Held H t)
wakes_some H t job P all (xs, p) (f, k) = at xs ((p f).1 k) (all xs gained)
  where
    gained : Gains [] P xs
    gained x = ((λ m. inr ((p x).0 m)), λ s. elim s [ inl n ↦ absurd (Contains-nil x n) | inr q ↦ (p x).1 q ])

    at : (ys : List Firing) → Contains ys f → AreThose (Woken H t job) ys → WakesSome job (entries.Token t) (Held H t)
    at [] m s = absurd (Contains-nil f m)
    at (y ∷ ys) m s = record { token = (t, refl); first = y; rest = ys; exact = s }
