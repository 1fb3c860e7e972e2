-- What a firing needs and what it gives stands in order, each entry once.
use Rattle.std.proofs.Common.{◌≡◌, ◌⊎◌, inl, inr, ◌∙◌, sym, refl, arith, subst, Bool, true, false, ℕ, ◌+◌, ◌*◌, ◌<◌, ◌≤◌, List, [], ◌∷◌, ◌++◌, append-nil, length, map, Contains, Ordering, Option, Some, None, Result, Ok, Err, ◌==◌, cond}
use Rattle.std.specs.Ordering.{ordering_then, nat_cmp}
use Rattle.std.specs.Cmp.{tied_itself, nat_cmp_is}
use Rattle.std.specs.declared.cmp.Ordering.TheVariants.{Less, Equal, Greater}
use Rattle.std.specs.Cmp.Lexicographic.{slice_cmp}
use Rattle.std.proofs.lemmas.Cmp.{nat_list_cmp_total}
use Rattle.u_name.specs.ContextOrder.{context_cmp}
use Rattle.u_name.specs.ContextLaws.{context_cmp_total}
use Rattle.u_name.specs.Context.{Tree, Top, InLoop, InCall, depth}
use Rattle.u_name.specs.Name.{Activity, returned}
use Rattle.u_name.specs.NameOrder.{name_cmp, name_cmp_total}
use Rattle.u_value.specs.declared.value.Value.{Value}
use Rattle.u_value.specs.declared.value.Value.TheVariants as values
use Rattle.u_value.specs.declared.fault_kind.FaultKind.{FaultKind}
use Rattle.u_value.specs.declared.fault_kind.FaultKind.TheVariants as faults
use Rattle.u_program.specs.Limits.{Ascending, IsDestination, IsStatement, rank, the_limits}
use Rattle.u_program.specs.Parts.{StatementParts, BlockParts}
use Rattle.u_program.specs.declared.program.Kind.{Kind}
use Rattle.u_program.specs.declared.program.Destination.{Destination}
use Rattle.u_program.specs.declared.program.Version.{Version}
use Rattle.u_check.specs.Kinds.{is_apply, is_end, is_store}
use Rattle.u_check.specs.Rules.{block_named}
use Rattle.std.proofs.lemmas.List.Elements.{Contains-append_cases}
use Rattle.u_name.specs.Cell.{CellOf, cell_of}
use Rattle.u_sets.specs.Rising.{Rises}
use Rattle.u_base.proofs.Member.{Contains-nil, Contains-cons_cases}
use Rattle.u_rule.specs.Parts.{token, ValueList}
use Rattle.u_rule.specs.Fits.{statement_of}
use Rattle.u_rule.specs.Parameters.{parameters_of}
use Rattle.u_rule.specs.Rule.{sent, beside, reached, refusal_of, list_of, result_of, first_of, delivered, handed_on, arguments_from, called_first, begun, called_on, called, back_of, brought_back, finished, ended, given, given_with, tokens_from, fault_of}
use Rattle.u_rule.specs.Structures.{cell_named, read_from, write_read, wrote, stored, stored_in, is_answer, replied}
use Rattle.u_rule.specs.HandingOn.{IsReachable}
use Rattle.u_rule.proofs.Linkage.{mapped, reached_beside}
use Rattle.u_rule.proofs.Destinations.{list_ascends}
use Rattle.u_rule.specs.EntryOrder.{entry_cmp, write_of}
use Rattle.u_rule.specs.declared.parts.Write.{Write}
use Rattle.u_rule.specs.declared.parts.Written.{Written}
use Rattle.u_rule.specs.declared.entry.Entry.{Entry}
use Rattle.u_rule.specs.declared.entry.Entry.TheVariants as entries

after_tie : (r o : Ordering) → r ≡ Equal → ordering_then r o ≡ o
after_tie Equal o e = refl
after_tie Less o e = cc
after_tie Greater o e = cc

at_less : (r o : Ordering) → r ≡ Less → ordering_then r o ≡ Less
at_less Less o e = refl
at_less Equal o e = cc
at_less Greater o e = cc

less : (a b : ℕ) → a < b → nat_cmp a b ≡ Less
less a b h = sym (nat_cmp_is a b Less h)

tie : (a b : ℕ) → a ≡ b → nat_cmp a b ≡ Equal
tie a b h = sym (nat_cmp_is a b Equal h)

-- two tokens of one activity are ordered by their ports
by_port : (a : Activity) (p q : ℕ) (v w : Value) → p < q → entry_cmp (entries.Token (token a p v)) (entries.Token (token a q w)) ≡ Less
by_port a p q v w l = after_tie (name_cmp a a) _ (tied_itself name_cmp_total a) ∙ at_less (nat_cmp p q) _ (less p q l)

-- activities that are beside one another, which differ in the statement alone
abbrev IsBeside : (ℕ → Activity) → Type 0
IsBeside to = (s t : ℕ) → s < t → name_cmp (to s) (to t) ≡ Less

beside_less : (a : Activity) → IsBeside (beside a)
beside_less a s t l =
    after_tie (context_cmp a.context a.context) _ (tied_itself context_cmp_total a.context)
    ∙ after_tie (slice_cmp nat_cmp a.block a.block) _ (tied_itself nat_list_cmp_total a.block)
    ∙ at_less (nat_cmp s t) _ (less s t l)

-- two destinations of one statement are ordered by statement and port
below : (to : ℕ → Activity) (v : Value) (d e : Destination) → IsBeside to → IsDestination d → IsDestination e → rank d < rank e → entry_cmp (sent to v d) (sent to v e) ≡ Less
below to v d e r i j l = at (cases d.statement e.statement d.port e.port (omega (arith, i.port.0)) (omega (arith, j.port.1)) l)
  where
    cases : (s t p q : ℕ) → 1 ≤ p → q ≤ 5 → 8 * s + p < 8 * t + q → (s < t) ⊎ ((s ≡ t) × (p < q))
    cases s t p q low high h = grind arith

    at : (d.statement < e.statement) ⊎ ((d.statement ≡ e.statement) × (d.port < e.port)) → entry_cmp (sent to v d) (sent to v e) ≡ Less
    at (inl h) = at_less (name_cmp (to d.statement) (to e.statement)) _ (r d.statement e.statement h)
    at (inr h) =
        subst (λ (s : ℕ). entry_cmp (sent to v d) (entries.Token (token (to s) e.port v)) ≡ Less) h.0 (by_port (to d.statement) d.port e.port v v h.1)

later : (low : ℕ) (ds : List Destination) (e : Destination) → Ascending low ds → Contains ds e → IsDestination e × (low < rank e)
later low [] e r m = absurd (Contains-nil e m)
later low (d ∷ ds) e r m =
    elim (Contains-cons_cases d e ds m) [
      | inl p ↦ subst (λ (x : Destination). IsDestination x × (low < rank x)) p (r.0, r.1)
      | inr k ↦ (let q = later (rank d) ds e r.2 k in (q.0, omega (arith, q.1, r.1)))
    ]

sent_rise : (to : ℕ → Activity) (v : Value) (low : ℕ) (ds : List Destination) → IsBeside to → Ascending low ds → Rises entry_cmp (map (sent to v) ds)
sent_rise to v low [] b r = tt
sent_rise to v low (d ∷ ds) b r =
    ((λ x m. let q = mapped to v ds x m in let l = later (rank d) ds q.0 r.2 q.1 in subst (λ (y : Entry). entry_cmp (sent to v d) y ≡ Less) q.2 (below to v d q.0 b r.0 l.0 l.1)), sent_rise to v (rank d) ds b r.2)

alone : (x : Entry) → Rises entry_cmp (x ∷ [])
alone x = ((λ y m. absurd (Contains-nil y m)), tt)

above : (a : Activity) (p q : ℕ) (v : Value) (ws : ValueList) → p < q → (x : Entry) → Contains (tokens_from a q ws) x → entry_cmp (entries.Token (token a p v)) x ≡ Less
above a p q v [] l x m = absurd (Contains-nil x m)
above a p q v (w ∷ ws) l x m =
    elim (Contains-cons_cases (entries.Token (token a q w)) x (tokens_from a (q + 1) ws) m)
    [ inl e ↦ subst (λ (y : Entry). entry_cmp (entries.Token (token a p v)) y ≡ Less) e (by_port a p q v w l) | inr k ↦ above a p (q + 1) v ws (omega arith) x k ]

tokens_rise : (a : Activity) (port : ℕ) (vs : ValueList) → Rises entry_cmp (tokens_from a port vs)
tokens_rise a port [] = tt
tokens_rise a port (v ∷ vs) = (above a port (port + 1) v vs (omega arith), tokens_rise a (port + 1) vs)

-- a write stands behind tokens
tokens_then : (a : Activity) (port : ℕ) (vs : ValueList) (w : Write) → Rises entry_cmp (tokens_from a port vs ++ (entries.Write w ∷ []))
tokens_then a port [] w = alone (entries.Write w)
tokens_then a port (v ∷ vs) w = (each, tokens_then a (port + 1) vs w)
  where
    each : (x : Entry) → Contains (tokens_from a (port + 1) vs ++ (entries.Write w ∷ [])) x → entry_cmp (entries.Token (token a port v)) x ≡ Less
    each x m =
        elim (Contains-append_cases (tokens_from a (port + 1) vs) (entries.Write w ∷ []) x m) [
          | inl k ↦ above a port (port + 1) v vs (omega arith) x k
          | inr k ↦ elim (Contains-cons_cases (entries.Write w) x [] k) [
            | inl e ↦ subst (λ (y : Entry). entry_cmp (entries.Token (token a port v)) y ≡ Less) e refl
            | inr n ↦ absurd (Contains-nil x n)
          ]
        ]

-- what a firing needs
pub needs_rise : (a : Activity) (vs : ValueList) (write : Option Written) → Rises entry_cmp (tokens_from a 1 vs ++ write_read vs write)
needs_rise a vs None = rw append-nil (tokens_rise a 1 vs)
needs_rise a vs (Some w) = at (cell_named vs)
  where
    at : (r : Result CellOf FaultKind) → Rises entry_cmp (tokens_from a 1 vs ++ read_from r w)
    at (Ok cell) = tokens_then a 1 vs (write_of cell w.writer w.value)
    at (Err _) = rw append-nil (tokens_rise a 1 vs)

-- one by one, what a statement reaches is in the order of statements
reached_rises : (k : Kind) (a : Activity) → IsReachable k a → IsBeside (reached k a)
reached_rises k a i s t l = rw (reached_beside k a s i, reached_beside k a t i) (beside_less (reached k a a.statement) s t l)

handed_rise : (version : Version) (k : Kind) (s : StatementParts) (a : Activity) (vs : ValueList) (r : Result Value FaultKind) → IsStatement the_limits s → IsReachable k a → Rises entry_cmp (handed_on version k a (list_of k s vs) r)
handed_rise version k s a vs (Err kind) i w = alone (fault_of a kind)
handed_rise version k s a vs (Ok v) i w = at (refusal_of version k a)
  where
    at : (o : Option FaultKind) → Rises entry_cmp (delivered o k a (list_of k s vs) v)
    at None = sent_rise (reached k a) v 0 (list_of k s vs) (reached_rises k a w) (list_ascends k s vs i)
    at (Some why) = alone (fault_of a why)

-- the arguments of a call rise by the statements that take them
argument_below : (first : Activity) (j k : ℕ) (v : Value) (vs : ValueList) → j < k → (x : Entry) → Contains (arguments_from first k vs) x → entry_cmp (entries.Token (token (beside first j) 1 v)) x ≡ Less
argument_below first j k v [] l x m = absurd (Contains-nil x m)
argument_below first j k v (w ∷ ws) l x m =
    elim (Contains-cons_cases (entries.Token (token (beside first k) 1 w)) x (arguments_from first (k + 1) ws) m) [
      | inl e ↦ subst (λ (y : Entry). entry_cmp (entries.Token (token (beside first j) 1 v)) y ≡ Less) e (at_less (name_cmp (beside first j) (beside first k)) _ (beside_less first j k l))
      | inr n ↦ argument_below first j (k + 1) v ws (omega arith) x n
    ]

arguments_rise : (first : Activity) (k : ℕ) (vs : ValueList) → Rises entry_cmp (arguments_from first k vs)
arguments_rise first k [] = tt
arguments_rise first k (v ∷ vs) = (argument_below first k (k + 1) v vs (omega arith), arguments_rise first (k + 1) vs)

begun_rise : (a : Activity) (name : List ℕ) (vs : ValueList) → Rises entry_cmp (begun a name vs)
begun_rise a name vs = at (depth a.context == 64)
  where
    at : (x : Bool) → Rises entry_cmp (cond x (fault_of a faults.Deep ∷ []) (arguments_from (called_first a name) 1 vs))
    at true = alone (fault_of a faults.Deep)
    at false = arguments_rise (called_first a name) 1 vs

called_rise : (p : List BlockParts) (a : Activity) (vs : ValueList) → Rises entry_cmp (called p a vs)
called_rise p a (values.Proc name ∷ vs) = at (block_named p name)
  where
    counted : (x : Bool) → Rises entry_cmp (cond x (begun a name vs) (fault_of a faults.Arity ∷ []))
    counted true = begun_rise a name vs
    counted false = alone (fault_of a faults.Arity)

    at : (o : Option BlockParts) → Rises entry_cmp (called_on o a name vs)
    at None = alone (fault_of a faults.Kind)
    at (Some b) = counted (length vs == parameters_of b)
called_rise p a vs = alone (fault_of a faults.Kind)

ended_rise : (p : List BlockParts) (a : Activity) (r : Result Value FaultKind) → Rises entry_cmp (ended p a r)
ended_rise p a (Err kind) = alone (fault_of a kind)
ended_rise p a (Ok v) = by_context a.context
  where
    brought : (o : Option ℕ) → Rises entry_cmp (brought_back a v o)
    brought None = tt
    brought (Some n) = alone (entries.Token (token (returned a n) 1 v))

    by_context : (u : Tree) → Rises entry_cmp (finished p a u v)
    by_context Top = alone (entries.Answer v)
    by_context (InLoop outer from number turn) = tt
    by_context (InCall outer from caller turn) = brought (back_of (statement_of p from caller))

stored_rise : (a : Activity) (vs : ValueList) → Rises entry_cmp (stored a vs)
stored_rise a vs = at (cell_named vs) vs
  where
    at : (r : Result CellOf FaultKind) (ws : ValueList) → Rises entry_cmp (stored_in a r ws)
    at (Ok cell) (structure ∷ index ∷ v ∷ ws) = alone (wrote cell a v)
    at (Ok cell) ws = alone (fault_of a faults.Kind)
    at (Err kind) ws = alone (fault_of a kind)

given_rise : (version : Version) (p : List BlockParts) (s : StatementParts) (a : Activity) (vs : ValueList) (write : Option Written) → IsStatement the_limits s → IsReachable s.kind a → Rises entry_cmp (given version p s a vs write)
given_rise version p s a vs write i w = at (is_apply s.kind) (is_end s.kind) (is_store s.kind)
  where
    at : (x y z : Bool) → Rises entry_cmp (cond x (called p a vs) (cond y (ended p a (first_of vs)) (cond z (stored a vs) (handed_on version s.kind a (list_of s.kind s vs) (result_of s.kind a vs write)))))
    at true y z = called_rise p a vs
    at false true z = ended_rise p a (first_of vs)
    at false false true = stored_rise a vs
    at false false false = handed_rise version s.kind s a vs (result_of s.kind a vs write) i w

replied_rise : (a : Activity) (write : Option Written) → Rises entry_cmp (replied a write)
replied_rise a None = tt
replied_rise a (Some w) = alone (wrote (cell_of a 0) w.writer w.value)

given_with_rise : (version : Version) (p : List BlockParts) (s : StatementParts) (a : Activity) (vs : ValueList) (write : Option Written) → IsStatement the_limits s → IsReachable s.kind a → Rises entry_cmp (given_with version p s a vs write)
given_with_rise version p s a vs write i w = at (is_answer s.kind write)
  where
    at : (x : Bool) → Rises entry_cmp (cond x (replied a write) (given version p s a vs write))
    at true = replied_rise a write
    at false = given_rise version p s a vs write i w

-- what a firing of a statement of a program gives stands in order
pub all_given_rise : (es : List Entry) (version : Version) (p : List BlockParts) (s : StatementParts) (a : Activity) (vs : ValueList) (write : Option Written) → es ≡ given_with version p s a vs write → IsStatement the_limits s → IsReachable s.kind a → Rises entry_cmp es
all_given_rise es version p s a vs write e i w = subst (λ (ys : List Entry). Rises entry_cmp ys) (sym e) (given_with_rise version p s a vs write i w)
