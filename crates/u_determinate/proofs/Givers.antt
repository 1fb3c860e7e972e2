-- Which firings give a token, and where from.
use Rattle.std.proofs.Common.{◌≡◌, ℕ, suc, ◌+◌, length, refl, ap, sym, ◌∙◌, arith, subst, Bool, true, false, List, [], ◌∷◌, Option, Some, None, Result, Ok, Err, cond, ◌==◌, inl, inr, ◌⊎◌, map}
use Rattle.std.specs.Prelude.{Contains, slice_get}
use Rattle.std.proofs.lemmas.Bool.{false≢true, eqb-true}
use Rattle.u_base.proofs.Member.{Contains-nil, Contains-cons_cases}
use Rattle.u_name.specs.Context.{Tree, Top, InLoop, InCall, depth}
use Rattle.u_name.specs.Name.{Activity, activity, call_context, returned}
use Rattle.u_name.specs.Cell.{CellOf}
use Rattle.u_value.specs.declared.value.Value.{Value}
use Rattle.u_value.specs.declared.value.Value.TheVariants as values
use Rattle.u_value.specs.declared.fault_kind.FaultKind.{FaultKind}
use Rattle.u_value.specs.declared.fault_kind.FaultKind.TheVariants as faults
use Rattle.u_program.specs.declared.program.Kind.{Kind}
use Rattle.u_program.specs.declared.program.Kind.TheVariants.{Switch, End}
use Rattle.u_program.specs.declared.program.Destination.{Destination}
use Rattle.u_program.specs.Parts.{StatementParts, BlockParts}
use Rattle.u_check.specs.Kinds.{is_apply, is_end, is_store, back_named}
use Rattle.u_check.specs.Rules.{block_named}
use Rattle.u_check.specs.Rules as rules
use Rattle.u_check.specs.Jobs.{JobParts}
use Rattle.u_rule.specs.Parts.{TokenParts, token, ValueList}
use Rattle.u_rule.specs.Fits.{statement_of}
use Rattle.u_rule.specs.Parameters.{parameters_of}
use Rattle.u_rule.specs.Structures.{cell_named, stored_in, is_answer, replied}
use Rattle.u_rule.specs.Rule.{first_of, result_of, list_of, reached, refusal_of, sent, fault_of, delivered, handed_on, beside, called_first, arguments_from, begun, called_on, called, back_of, brought_back, finished, ended, given, given_at, gives_of}
use Rattle.u_rule.specs.declared.entry.Entry.{Entry}
use Rattle.u_rule.specs.declared.entry.Entry.TheVariants as entries
use Rattle.u_rule.specs.declared.firing.Firing.{Firing}
use Rattle.u_rule.specs.declared.parts.Written.{Written}

-- a token that a statement sends along an arc
pub record ByArc (job : JobParts) (f : Firing) (t : TokenParts) : Type 0 where
  pub it : StatementParts
  pub stands : statement_of job.program.blocks f.activity.block f.activity.statement ≡ Some it
  pub on_false : Bool
  pub to : Destination
  pub listed : Contains (rules.list_of it on_false) to
  pub list : rules.list_of it on_false ≡ list_of it.kind it f.values
  pub side : it.kind ≡ Switch → (v : Value) × (vs : ValueList) × (f.values ≡ v ∷ values.Bool (cond on_false false true) ∷ vs)
  pub result : result_of it.kind f.activity f.values f.write ≡ Ok t.value
  pub activity : t.activity ≡ reached it.kind f.activity to.statement
  pub port : t.port ≡ to.port
  pub hands_on : (is_apply it.kind ≡ false) × (is_end it.kind ≡ false) × (is_store it.kind ≡ false)
  pub no_answer : is_answer it.kind f.write ≡ false

-- a token that an `apply` gives: the argument at a place goes to the statement of that parameter
pub record ByApply (job : JobParts) (f : Firing) (t : TokenParts) : Type 0 where
  pub block : List ℕ
  pub rest : ValueList
  pub values : f.values ≡ values.Proc block ∷ rest
  pub callee : BlockParts
  pub named : block_named job.program.blocks block ≡ Some callee
  pub count : length rest ≡ parameters_of callee
  pub place : ℕ
  pub argument : slice_get rest place ≡ Some t.value
  pub activity : t.activity ≡ activity (call_context f.activity) block (1 + place) 1
  pub port : t.port ≡ 1

-- a token that an `end` gives
pub record ByEnd (job : JobParts) (f : Firing) (t : TokenParts) : Type 0 where
  pub it : StatementParts
  pub stands : statement_of job.program.blocks f.activity.block f.activity.statement ≡ Some it
  pub is_end : it.kind ≡ End
  pub outer : Tree
  pub from : List ℕ
  pub caller : ℕ
  pub turn : ℕ
  pub context : f.activity.context ≡ InCall outer from caller turn
  pub by : StatementParts
  pub by_stands : statement_of job.program.blocks from caller ≡ Some by
  pub back : ℕ
  pub names : back_named by.kind ≡ Some back
  pub result : first_of f.values ≡ Ok t.value
  pub activity : t.activity ≡ activity outer from back turn
  pub port : t.port ≡ 1

abbrev pub Giver : JobParts → Firing → TokenParts → Type 0
Giver job f t = ByArc job f t ⊎ (ByApply job f t ⊎ ByEnd job f t)

tok_same : (a b : TokenParts) → entries.Token a ≡ entries.Token b → a ≡ b
tok_same a b e = cc

one : (x e : Entry) → Contains (x ∷ []) e → x ≡ e
one x e m = elim (Contains-cons_cases x e [] m) [ inl p ↦ p | inr k ↦ absurd (Contains-nil e k) ]

no_fault : (a : Activity) (k : FaultKind) (t : TokenParts) → Contains (fault_of a k ∷ []) (entries.Token t) → ⊥
no_fault a k t m = let e = one (fault_of a k) (entries.Token t) m in cc

mapped : (to : ℕ → Activity) (v : Value) (ds : List Destination) (x : Entry) → Contains (map (sent to v) ds) x → (e : Destination) × Contains ds e × (sent to v e ≡ x)
mapped to v [] x m = absurd (Contains-nil x m)
mapped to v (d ∷ ds) x m =
    elim (Contains-cons_cases (sent to v d) x (map (sent to v) ds) m)
    [ inl p ↦ (d, (0, omega arith, refl), p) | inr k ↦ (let q = mapped to v ds x k in (q.0, (suc q.1.0, omega (arith, q.1.1), q.1.2), q.2)) ]

end_kind : (k : Kind) → is_end k ≡ true → k ≡ End
end_kind End e = refl
end_kind k e = absurd (false≢true e)

-- the list that a statement sends to, and which side of a `switch` it is
record Side (s : StatementParts) (k : Kind) (vs : ValueList) : Type 0 where
  on_false : Bool
  list : rules.list_of s on_false ≡ list_of k s vs
  side : k ≡ Switch → (v : Value) × (rest : ValueList) × (vs ≡ v ∷ values.Bool (cond on_false false true) ∷ rest)

sides : (job : JobParts) (a : Activity) (s : StatementParts) (k : Kind) (vs : ValueList) (r : Option Written) (v : Value) → result_of k a vs r ≡ Ok v → Side s k vs
unfolding result_of
sides job a s Switch (x ∷ values.Bool true ∷ vs) r v e = record { on_false = false; list = refl; side = λ q. (x, vs, refl) }
sides job a s Switch (x ∷ values.Bool false ∷ vs) r v e = record { on_false = true; list = refl; side = λ q. (x, vs, refl) }
sides job a s Switch vs r v e = absurd (cc)
sides job a s k vs r v e = record { on_false = false; list = refl; side = λ q. absurd (cc) }

module _ (job : JobParts) (f : Firing) (t : TokenParts) (s : StatementParts) (e : statement_of job.program.blocks f.activity.block f.activity.statement ≡ Some s) (own : is_answer s.kind f.write ≡ false) where
  along : (is_apply s.kind ≡ false) → (is_end s.kind ≡ false) → (is_store s.kind ≡ false) → (r : Result Value FaultKind) → result_of s.kind f.activity f.values f.write ≡ r → Contains (handed_on job.program.version s.kind f.activity (list_of s.kind s f.values) r) (entries.Token t) → ByArc job f t
  along na ne ns (Err k) q m = absurd (no_fault f.activity k t m)
  along na ne ns (Ok v) q m = by (refusal_of job.program.version s.kind f.activity) m
    where
      by : (o : Option FaultKind) → Contains (delivered o s.kind f.activity (list_of s.kind s f.values) v) (entries.Token t) → ByArc job f t
      by (Some k) m = absurd (no_fault f.activity k t m)
      by None m =
          let c = mapped (reached s.kind f.activity) v (list_of s.kind s f.values) (entries.Token t) m in
          let d = sides job f.activity s s.kind f.values f.write v q in
          let z : token (reached s.kind f.activity c.0.statement) c.0.port v ≡ t = tok_same _ t c.2 in
          record {
            it = s;
            stands = e;
            on_false = d.on_false;
            to = c.0;
            listed = subst (λ (ds : List Destination). Contains ds c.0) (sym d.list) c.1;
            list = d.list;
            side = d.side;
            result = q ∙ ap (λ (x : TokenParts). Ok x.value) z;
            activity = sym (ap (λ (x : TokenParts). x.activity) z);
            port = sym (ap (λ (x : TokenParts). x.port) z);
            hands_on = (na, ne, ns);
            no_answer = own;
          }

  -- an argument among those from that one on
  argument : (first : Activity) (k : ℕ) (vs : ValueList) → Contains (arguments_from first k vs) (entries.Token t) → (i : ℕ) × (slice_get vs i ≡ Some t.value) × (t.activity ≡ beside first (k + i)) × (t.port ≡ 1)
  argument first k [] m = absurd (Contains-nil (entries.Token t) m)
  argument first k (v ∷ vs) m =
      elim (Contains-cons_cases (entries.Token (token (beside first k) 1 v)) (entries.Token t) (arguments_from first (k + 1) vs) m) [
        | inl x ↦
            let z : token (beside first k) 1 v ≡ t = tok_same _ t x in
            let here : k ≡ k + 0 = omega arith in
            (0, ap (λ (x : TokenParts). Some x.value) z, sym (ap (λ (x : TokenParts). x.activity) z) ∙ ap (beside first) here, sym (ap (λ (x : TokenParts). x.port) z))
        | inr x ↦
            let r = argument first (k + 1) vs x in
            let there : k + 1 + r.0 ≡ k + suc r.0 = omega arith in
            (suc r.0, r.1, r.2 ∙ ap (beside first) there, r.3)
      ]

  applied : (vs : ValueList) → f.values ≡ vs → Contains (called job.program.blocks f.activity vs) (entries.Token t) → ByApply job f t
  applied (values.Proc block ∷ vs) q m = by_block (block_named job.program.blocks block) refl m
    where
      begins : (b : BlockParts) → block_named job.program.blocks block ≡ Some b → length vs ≡ parameters_of b → (z : Bool) → Contains (cond z (fault_of f.activity faults.Deep ∷ []) (arguments_from (called_first f.activity block) 1 vs)) (entries.Token t) → ByApply job f t
      begins b n c true m = absurd (no_fault f.activity faults.Deep t m)
      begins b n c false m =
          let a = argument (called_first f.activity block) 1 vs m in
          record {
            block = block;
            rest = vs;
            values = q;
            callee = b;
            named = n;
            count = c;
            place = a.0;
            argument = a.1;
            activity = a.2;
            port = a.3;
          }

      counted : (b : BlockParts) → block_named job.program.blocks block ≡ Some b → (y : Bool) → (length vs == parameters_of b) ≡ y → Contains (cond y (begun f.activity block vs) (fault_of f.activity faults.Arity ∷ [])) (entries.Token t) → ByApply job f t
      counted b n true c m = begins b n (eqb-true (length vs) (parameters_of b) c) (depth f.activity.context == 64) m
      counted b n false c m = absurd (no_fault f.activity faults.Arity t m)

      by_block : (o : Option BlockParts) → block_named job.program.blocks block ≡ o → Contains (called_on o f.activity block vs) (entries.Token t) → ByApply job f t
      by_block None n m = absurd (no_fault f.activity faults.Kind t m)
      by_block (Some b) n m = counted b n (length vs == parameters_of b) refl m
  applied vs q m = absurd (no_fault f.activity _ t m)

  ending : is_end s.kind ≡ true → (r : Result Value FaultKind) → first_of f.values ≡ r → Contains (ended job.program.blocks f.activity r) (entries.Token t) → ByEnd job f t
  ending q (Err k) h m = absurd (no_fault f.activity k t m)
  ending q (Ok v) h m = by_context f.activity.context refl m
    where
      by_back : (outer : Tree) (from : List ℕ) (caller turn : ℕ) → f.activity.context ≡ InCall outer from caller turn → (o : Option StatementParts) → statement_of job.program.blocks from caller ≡ o → Contains (brought_back f.activity v (back_of o)) (entries.Token t) → ByEnd job f t
      by_back outer from caller turn c None z m = absurd (Contains-nil (entries.Token t) m)
      by_back outer from caller turn c (Some by) z m = by_name (back_named by.kind) refl m
        where
          by_name : (o : Option ℕ) → back_named by.kind ≡ o → Contains (brought_back f.activity v o) (entries.Token t) → ByEnd job f t
          by_name None g m = absurd (Contains-nil (entries.Token t) m)
          by_name (Some b) g m =
              let y = tok_same _ t (one _ (entries.Token t) m) in
              let l : returned f.activity b ≡ activity outer from b turn = rw c refl in
              record {
                it = s;
                stands = e;
                is_end = end_kind s.kind q;
                outer = outer;
                from = from;
                caller = caller;
                turn = turn;
                context = c;
                by = by;
                by_stands = z;
                back = b;
                names = g;
                result = h ∙ ap (λ (x : TokenParts). Ok x.value) y;
                activity = sym (ap (λ (x : TokenParts). x.activity) y) ∙ l;
                port = sym (ap (λ (x : TokenParts). x.port) y);
              }

      by_context : (u : Tree) → f.activity.context ≡ u → Contains (finished job.program.blocks f.activity u v) (entries.Token t) → ByEnd job f t
      by_context Top c m = let z = one _ (entries.Token t) m in cc
      by_context (InLoop outer from number turn) c m = absurd (Contains-nil (entries.Token t) m)
      by_context (InCall outer from caller turn) c m = by_back outer from caller turn c (statement_of job.program.blocks from caller) refl m

  no_write : (r : Result CellOf FaultKind) (vs : ValueList) → Contains (stored_in f.activity r vs) (entries.Token t) → ⊥
  no_write (Ok c) (x ∷ y ∷ v ∷ vs) m = let z = one _ (entries.Token t) m in cc
  no_write (Ok c) vs m = no_fault f.activity _ t m
  no_write (Err k) vs m = no_fault f.activity k t m

  given_by : Contains (given job.program.version job.program.blocks s f.activity f.values f.write) (entries.Token t) → Giver job f t
  given_by m = at (is_apply s.kind) (is_end s.kind) (is_store s.kind) refl refl refl m
    where
      at : (x y z : Bool) → is_apply s.kind ≡ x → is_end s.kind ≡ y → is_store s.kind ≡ z → Contains (cond x (called job.program.blocks f.activity f.values) (cond y (ended job.program.blocks f.activity (first_of f.values)) (cond z (stored_in f.activity (cell_named f.values) f.values) (handed_on job.program.version s.kind f.activity (list_of s.kind s f.values) (result_of s.kind f.activity f.values f.write))))) (entries.Token t) → Giver job f t
      at true y z a b c m = inr (inl (applied f.values refl m))
      at false true z a b c m = inr (inr (ending b (first_of f.values) refl m))
      at false false true a b c m = absurd (no_write (cell_named f.values) f.values m)
      at false false false a b c m = inl (along a b c _ refl m)

-- a reply gives no token
no_reply : (a : Activity) (write : Option Written) (t : TokenParts) → Contains (replied a write) (entries.Token t) → ⊥
no_reply a None t m = Contains-nil (entries.Token t) m
no_reply a (Some w) t m = let z = one _ (entries.Token t) m in cc

-- whatever token a firing gives, it gives in one of three ways
pub giver : (job : JobParts) (f : Firing) (t : TokenParts) → Contains (gives_of job f) (entries.Token t) → Giver job f t
unfolding gives_of
giver job f t m = at (statement_of job.program.blocks f.activity.block f.activity.statement) refl m
  where
    at : (o : Option StatementParts) → statement_of job.program.blocks f.activity.block f.activity.statement ≡ o → Contains (given_at job.program.version job.program.blocks o f) (entries.Token t) → Giver job f t
    at None e m = absurd (Contains-nil (entries.Token t) m)
    at (Some s) e m = by (is_answer s.kind f.write) refl m
      where
        by : (x : Bool) → is_answer s.kind f.write ≡ x → Contains (cond x (replied f.activity f.write) (given job.program.version job.program.blocks s f.activity f.values f.write)) (entries.Token t) → Giver job f t
        by true q m = absurd (no_reply f.activity f.write t m)
        by false q m = given_by job f t s e q m
