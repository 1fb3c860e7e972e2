-- The columns of a history's tables, and the tables of activities that they give.
use Rattle.std.proofs.Common.{◌≡◌, ◌↔◌, ◌⊎◌, inl, inr, ℕ, zero, suc, ◌+◌, ◌<◌, ◌≤◌, List, [], ◌∷◌, ◌++◌, map, Contains, length, get_or, set, take, subst, sym, ◌∙◌, ap, refl, arith, append_assoc}
use Rattle.std.specs.Prelude.{Bool, Result, Ok, Err, OnOk, OnErr, Option, None, slice_get}
use Rattle.std.specs.Borrow.{Bor}
use Rattle.std.proofs.lemmas.List.{length-set, length-append, take_more, take_all, map-append}
use Rattle.u_base.specs.Firing.{Distinct}
use Rattle.u_base.proofs.Member.{Contains-nil, Contains-head, Contains-tail, Contains-cons_cases}
use Rattle.u_name.specs.Name.{Activity}
use Rattle.u_value.specs.declared.value.Value.{Value}
use Rattle.u_sets.specs.Members.{IsWith}
use Rattle.u_names.specs.Groups.{Grows}
use Rattle.u_sets.specs.Columns.{AreBelow, named, pair_under, deref_value, IsNumberOf, MayNumber}
use Rattle.u_sets.proofs.Named.{under, named_with, below_with, below_more, named_push}
use Rattle.u_rule.specs.Parts.{TokenParts, token}
use Rattle.u_rule.specs.declared.entry.Entry.{Entry}
use Rattle.u_rule.specs.declared.entry.Entry.TheVariants as entries
use Rattle.u_history.specs.declared.tables.Tables.{Tables}
use Rattle.u_history.specs.Tables.{PortTables, Contents, tables_by, contents_of, AreTables, place_at, table_at, InTables, HasMore, HoldsMore, HoldsTheSame, token_entry}
use Rattle.u_history.proofs.Tabled.{token_put, table_is, none_past, none_at_zero, mapped}

abbrev pub Column : Type 0
Column = List (ℕ × Value)

pub column_in : (cs : List Column) (i : ℕ) (d : Column) → i < length cs → Contains cs (get_or cs i d)
column_in [] i d l = absurd (omega (arith, l))
column_in (c ∷ cs) zero d l = Contains-head c cs
column_in (c ∷ cs) (suc i) d l = Contains-tail c (get_or cs i d) cs (column_in cs i d (omega (arith, l)))

-- what holds of each column holds of each once another stands at a place of which it holds too
pub each_set : (P : Column → Type 0) (cs : List Column) (i : ℕ) (new : Column) → ((c : Column) → Contains cs c → P c) → P new → (c : Column) → Contains (set cs i new) c → P c
each_set P [] i new all p c m = absurd (Contains-nil c m)
each_set P (b ∷ cs) zero new all p c m = elim (Contains-cons_cases new c cs m) [ inl e ↦ subst P e p | inr n ↦ all c (Contains-tail b c cs n) ]
each_set P (b ∷ cs) (suc i) new all p c m =
    elim (Contains-cons_cases b c (set cs i new) m) [
      | inl e ↦ subst P e (all b (Contains-head b cs))
      | inr n ↦ each_set P cs i new (λ d k. all d (Contains-tail b d cs k)) p c n
    ]

module _ (names : List Activity) where
  pub tables_length : (cs : List Column) → length (tables_by names cs) ≡ length cs
  tables_length [] = refl
  tables_length (c ∷ cs) = ap suc (tables_length cs)

  pub tables_set : (cs : List Column) (i : ℕ) (c : Column) → tables_by names (set cs i c) ≡ set (tables_by names cs) i (named names c)
  tables_set [] i c = refl
  tables_set (b ∷ cs) zero c = refl
  tables_set (b ∷ cs) (suc i) c = ap (λ (ts : PortTables). named names b ∷ ts) (tables_set cs i c)

  pub tables_get : (cs : List Column) (i : ℕ) (d : Column) → get_or (tables_by names cs) i (named names d) ≡ named names (get_or cs i d)
  tables_get [] i d = refl
  tables_get (c ∷ cs) zero d = refl
  tables_get (c ∷ cs) (suc i) d = tables_get cs i d

  -- the table of the port behind a column is what the column gives
  pub table_of : (cs : List Column) (n i : ℕ) (d : Column) → n ≡ suc i → i < length cs → place_at (tables_by names cs) n ≡ named names (get_or cs i d)
  table_of cs n i d e l = table_is (tables_by names cs) n i (named names d) e (omega (arith, l, tables_length cs)) ∙ tables_get cs i d

  still_at : (more : List Activity) (n : ℕ) → n < length names → slice_get (names ++ more) n ≡ slice_get names n
  still_at more n l = front_at names more n l
    where
      front_at : (xs ys : List Activity) (i : ℕ) → i < length xs → slice_get (xs ++ ys) i ≡ slice_get xs i
      front_at [] ys i k = absurd (omega (arith, k))
      front_at (x ∷ xs) ys zero k = refl
      front_at (x ∷ xs) ys (suc i) k = front_at xs ys i (omega (arith, k))

  still_named : (rest : List Activity) (c : Column) → AreBelow (length names) c → named (names ++ rest) c ≡ named names c
  still_named rest [] b = refl
  still_named rest (p ∷ ps) b =
      ap (λ (o : Option Activity). pair_under o p.1 ++ named (names ++ rest) ps) (still_at rest p.0 (b p (Contains-head p ps)))
      ∙ ap (λ (qs : List (Activity × Value)). pair_under (slice_get names p.0) p.1 ++ qs) (still_named rest ps (λ q m. b q (Contains-tail p q ps m)))

  -- more names behind leave the tables
  pub tables_still : (more : List Activity) (cs : List Column) → Grows names more → ((c : Column) → Contains cs c → AreBelow (length names) c) → tables_by more cs ≡ tables_by names cs
  tables_still more [] g b = refl
  tables_still more (c ∷ cs) (rest, e) b =
      ap (λ (ps : List (Activity × Value)). ps ∷ tables_by more cs) (ap (λ (ks : List Activity). named ks c) e ∙ still_named rest c (b c (Contains-head c cs)))
      ∙ ap (λ (ts : PortTables). named names c ∷ ts) (tables_still more cs (rest, e) (λ d m. b d (Contains-tail c d cs m)))

pub grown_length : (xs ys : List Activity) → Grows xs ys → length xs ≤ length ys
grown_length xs ys (rest, e) = let q = ap length e in let k = length-append xs rest in omega (arith, q, k)

module _ (t : Tables) (all : AreTables t) where
  -- what an activity has at a port is what its number has in the port's column
  pub at_number : (p i n : ℕ) (d : Column) (a : Activity) (v : Value) → p ≡ suc i → i < length t.columns → MayNumber t.names a n → Contains (get_or t.columns i d) (n, v) ↔ InTables (contents_of t) (entries.Token (token a p v))
  at_number p i n d a v e l m =
      subst (λ (ps : List (Activity × Value)). Contains (get_or t.columns i d) (n, v) ↔ Contains ps (a, v)) (sym (table_of t.names t.columns p i d e l))
      (under t.names (get_or t.columns i d) a n v all.distinct (all.below (get_or t.columns i d) (column_in t.columns i d l)) m)

  -- and behind the last port there is nothing
  pub nothing_at : (p : ℕ) (a : Activity) (v : Value) → (p ≡ zero) ⊎ (length t.columns < p) → Contains {X = Value} [] v ↔ InTables (contents_of t) (entries.Token (token a p v))
  nothing_at p a v h = ((λ m. absurd (Contains-nil v m)), λ m. absurd (Contains-nil (a, v) (subst (λ (ps : List (Activity × Value)). Contains ps (a, v)) (none h) m)))
    where
      none : (p ≡ zero) ⊎ (length t.columns < p) → table_at (contents_of t) p ≡ []
      none (inl e) = ap (place_at (tables_by t.names t.columns)) e ∙ none_at_zero (tables_by t.names t.columns)
      none (inr l) = none_past (tables_by t.names t.columns) p (omega (arith, l, tables_length t.names t.columns))

  -- more names
  module _ (more : List Activity) (grown : Grows t.names more) (apart : Distinct more) where
    abbrev pub renamed : Tables
    renamed = record t { names = more }

    pub renamed_same : HoldsTheSame t renamed
    renamed_same = ap (λ (ts : PortTables). record (contents_of t) { tokens = ts }) (tables_still t.names more t.columns grown all.below)

    pub renamed_tables : AreTables renamed
    renamed_tables = record {
      ports = all.ports;
      distinct = apart;
      below = λ c m. below_more (length t.names) (length more) c (all.below c m) (grown_length t.names more grown);
      others = all.others;
    }

  -- another column
  module _ (i : ℕ) (d new : Column) (below : i < length t.columns) where
    abbrev pub with_column : Tables
    with_column = record t { columns = set t.columns i new }

    pub put_more : (n p : ℕ) (v : Value) → p ≡ suc i → IsWith (get_or t.columns i d) (n, v) new → (a : Activity) → IsNumberOf t.names a n → HoldsMore t (entries.Token (token a p v)) with_column
    put_more n p v e put a is =
        subst (λ (ts : PortTables). HasMore (contents_of t) (entries.Token (token a p v)) (record (contents_of t) { tokens = ts })) (sym (tables_set t.names t.columns i new))
        (token_put (contents_of t) (token a p v) i (named t.names d) (named t.names new) e (omega (arith, below, tables_length t.names t.columns))
        (subst (λ (ps : List (Activity × Value)). IsWith ps (a, v) (named t.names new)) (sym (tables_get t.names t.columns i d))
        (named_with t.names (get_or t.columns i d) new n a v is put)))

    pub put_tables : AreBelow (length t.names) new → AreTables with_column
    put_tables b = record {
      ports = length-set t.columns i new ∙ all.ports;
      distinct = all.distinct;
      below = each_set (AreBelow (length t.names)) t.columns i new all.below b;
      others = all.others;
    }

-- a column that may have one pair more has numbers below n
pub below_put : {E : Type 0} (r : Result Bool E) (n i : ℕ) (v : Value) (old new : Column) → OnOk r (IsWith old (i, v) new) → OnErr r (new ≡ old) → i < n → AreBelow n old → AreBelow n new
below_put (Ok x) n i v old new put same l b = below_with n i v old new b l put
below_put (Err e) n i v old new put same l b = subst (AreBelow n) (sym same) b

-- a reference to a pair that stands in a list is one of its pairs
pub member_of : (ps : List (ℕ × Bor Value)) (i : ℕ) (p : ℕ × Bor Value) → i < length ps → p ≡ get_or ps i p → Contains (map deref_value ps) (deref_value p)
member_of ps i p l at = mapped deref_value ps p (i, l, sym at)

-- one token more
pub named_step : (names : List Activity) (port : ℕ) (ps : List (ℕ × Bor Value)) (i : ℕ) (p : ℕ × Bor Value) (a : Activity) (e : Entry) (old new start : List Entry)
    → i < length ps → p ≡ get_or ps i p → IsNumberOf names a p.0 → new ≡ old ++ e ∷ [] → e ≡ entries.Token (token a port p.1.now)
    → old ≡ start ++ map (token_entry port) (named names (map deref_value (take i ps))) → new ≡ start ++ map (token_entry port) (named names (map deref_value (take (i + 1) ps)))
named_step names port ps i p a e old new start l at is n token_is all =
    let f : Activity × Value → Entry = token_entry port in
    let before : List (ℕ × Value) = map deref_value (take i ps) in
    n ∙ ap (λ (t : List Entry). t ++ e ∷ []) all
    ∙ append_assoc start (map f (named names before)) (e ∷ [])
    ∙ ap (λ (x : Entry). start ++ (map f (named names before) ++ x ∷ [])) token_is
    ∙ ap (λ (t : List Entry). start ++ t) (sym (map-append f (named names before) ((a, p.1.now) ∷ [])))
    ∙ ap (λ (qs : List (Activity × Value)). start ++ map f qs) (sym (named_push names before (deref_value p) a is))
    ∙ ap (λ (qs : List (ℕ × Value)). start ++ map f (named names qs)) (sym (map-append deref_value (take i ps) (p ∷ [])))
    ∙ ap (λ (qs : List (ℕ × Bor Value)). start ++ map f (named names (map deref_value qs))) (sym (take_more ps i p l ∙ ap (λ (w : ℕ × Bor Value). take i ps ++ w ∷ []) (sym at)))

pub named_end : (names : List Activity) (port : ℕ) (ps : List (ℕ × Bor Value)) (i : ℕ) (out start : List Entry) → length ps ≤ i
    → out ≡ start ++ map (token_entry port) (named names (map deref_value (take i ps))) → out ≡ start ++ map (token_entry port) (named names (map deref_value ps))
named_end names port ps i out start l h = h ∙ ap (λ (qs : List (ℕ × Bor Value)). start ++ map (token_entry port) (named names (map deref_value qs))) (take_all i ps l)

pub below_at : (t : Tables) → AreTables t → (i : ℕ) (d : Column) → i < length t.columns → AreBelow (length t.names) (get_or t.columns i d)
below_at t all i d l = all.below (get_or t.columns i d) (column_in t.columns i d l)

-- a token by its parts
pub more_is : (s u : Contents) (k : TokenParts) (a : Activity) (p : ℕ) (v : Value) → a ≡ k.activity → p ≡ k.port → v ≡ k.value → HasMore s (entries.Token (token a p v)) u → HasMore s (entries.Token k) u
more_is s u k a p v e f g m =
    let is : token a p v ≡ k = ap (λ (b : Activity). token b p v) e ∙ (ap (λ (n : ℕ). token k.activity n v) f ∙ ap (λ (x : Value). token k.activity k.port x) g) in
    subst (λ (j : TokenParts). HasMore s (entries.Token j) u) is m

pub stands : {X : Type 0} (xs : List X) (i : ℕ) → i < length xs → slice_get xs i ≡ None → ⊥
stands [] i l e = absurd (omega (arith, l))
stands (x ∷ xs) zero l e = absurd (cc)
stands (x ∷ xs) (suc i) l e = stands xs i (omega (arith, l)) e

-- columns with no pairs
pub all_empty : (names : List Activity) (cs : List Column) → ((i : ℕ) (d : Column) → i < length cs → get_or cs i d ≡ []) → (i : ℕ) (d : List (Activity × Value)) → i < length (tables_by names cs) → get_or (tables_by names cs) i d ≡ []
all_empty names [] h i d l = absurd (omega (arith, l))
all_empty names (c ∷ cs) h zero d l = ap (named names) (h zero [] (omega arith))
all_empty names (c ∷ cs) h (suc i) d l = all_empty names cs (λ j e k. h (suc j) e (omega (arith, k))) i d (omega (arith, l))

pub below_empty : (n : ℕ) (cs : List Column) → ((i : ℕ) (d : Column) → i < length cs → get_or cs i d ≡ []) → (c : Column) → Contains cs c → AreBelow n c
below_empty n cs h c (i, l, e) p m = absurd (Contains-nil p (subst (λ (d : Column). Contains d p) (sym e ∙ h i c l) m))
