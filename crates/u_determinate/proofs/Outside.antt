-- A quiet run with replies is whole; and an activity that asks writes by its replies alone.
use Rattle.std.proofs.Common.{◌≡◌, ℕ, ◌+◌, refl, ap, sym, ◌∙◌, subst, Bool, true, false, ◌==◌, cond, List, [], ◌∷◌, length, map, Option, Some, None, Result, Ok, Err, inl, inr}
use Rattle.std.specs.Prelude.{Contains}
use Rattle.std.proofs.lemmas.Bool.{false≢true}
use Rattle.u_base.proofs.Member.{Contains-nil, Contains-cons_cases}
use Rattle.u_base.proofs.Closure.{Settled-is_Cl}
use Rattle.u_base.proofs.Determinate.{Derivation-enabled}
use Rattle.u_name.specs.Context.{Tree, Top, InLoop, InCall, depth}
use Rattle.u_name.specs.Name.{Activity}
use Rattle.u_name.specs.Cell.{CellOf, cell_of}
use Rattle.u_value.specs.declared.value.Value.{Value}
use Rattle.u_value.specs.declared.value.Value.TheVariants as values
use Rattle.u_value.specs.declared.fault_kind.FaultKind.{FaultKind}
use Rattle.u_value.specs.declared.fault_kind.FaultKind.TheVariants as faults
use Rattle.u_program.specs.declared.program.Kind.{Kind}
use Rattle.u_program.specs.declared.program.Kind.TheVariants.{Ask}
use Rattle.u_program.specs.declared.program.Destination.{Destination}
use Rattle.u_program.specs.declared.program.Version.{Version}
use Rattle.u_program.specs.Parts.{StatementParts, BlockParts}
use Rattle.u_check.specs.Kinds.{is_apply, is_end, is_store, is_ask}
use Rattle.u_check.specs.Rules.{block_named}
use Rattle.u_check.specs.Jobs.{JobParts}
use Rattle.u_rule.specs.Parts.{ValueList}
use Rattle.u_rule.specs.Fits.{statement_of}
use Rattle.u_rule.specs.Parameters.{parameters_of}
use Rattle.u_rule.specs.Structures.{cell_named, stored, stored_in, wrote, is_answer, replied}
use Rattle.u_rule.specs.Rule.{is_firing_of, is_inner_of, first_of, result_of, list_of, reached, refusal_of, sent, fault_of, delivered, handed_on, called_first, arguments_from, begun, called_on, called, back_of, brought_back, finished, ended, given, given_at, gives_of, start_of, system_of}
use Rattle.u_rule.specs.Replies.{IsReply}
use Rattle.u_rule.specs.declared.entry.Entry.{Entry}
use Rattle.u_rule.specs.declared.entry.Entry.TheVariants as entries
use Rattle.u_rule.specs.declared.firing.Firing.{Firing}
use Rattle.u_rule.specs.declared.parts.Write.{Write}
use Rattle.u_rule.specs.declared.parts.Written.{Written}
use Rattle.u_rule.proofs.Firings.{inner_or_reply}
use Rattle.u_rule.proofs.Own.{inner_no_answer, reply_answers}
use Rattle.u_determinate.specs.Outside.{MayFire, QuietIsWhole, RepliesAloneWrite}

-- entries that are no writes
abbrev IsNoWrite : Entry → Type 0
IsNoWrite (entries.Write w) = ⊥
IsNoWrite e = Unit {0}

abbrev NoWrites : List Entry → Type 0
NoWrites es = (e : Entry) → Contains es e → IsNoWrite e

none : NoWrites []
none e m = absurd (Contains-nil e m)

more : (x : Entry) (xs : List Entry) → IsNoWrite x → NoWrites xs → NoWrites (x ∷ xs)
more x xs i n e m = elim (Contains-cons_cases x e xs m) [ inl q ↦ subst (λ (y : Entry). IsNoWrite y) q i | inr k ↦ n e k ]

fault_none : (a : Activity) (why : FaultKind) → NoWrites (fault_of a why ∷ [])
fault_none a why = more (fault_of a why) [] tt none

sent_none : (to : ℕ → Activity) (v : Value) (ds : List Destination) → NoWrites (map (sent to v) ds)
sent_none to v [] = none
sent_none to v (d ∷ ds) = more (sent to v d) (map (sent to v) ds) tt (sent_none to v ds)

delivered_none : (o : Option FaultKind) (k : Kind) (a : Activity) (to : List Destination) (v : Value) → NoWrites (delivered o k a to v)
delivered_none None k a to v = sent_none (reached k a) v to
delivered_none (Some why) k a to v = fault_none a why

handed_none : (version : Version) (k : Kind) (a : Activity) (to : List Destination) (r : Result Value FaultKind) → NoWrites (handed_on version k a to r)
handed_none version k a to (Ok v) = delivered_none (refusal_of version k a) k a to v
handed_none version k a to (Err why) = fault_none a why

arguments_none : (first : Activity) (k : ℕ) (vs : ValueList) → NoWrites (arguments_from first k vs)
arguments_none first k [] = none
arguments_none first k (v ∷ vs) = more _ (arguments_from first (k + 1) vs) tt (arguments_none first (k + 1) vs)

called_none : (p : List BlockParts) (a : Activity) (vs : ValueList) → NoWrites (called p a vs)
called_none p a (values.Proc block ∷ vs) = by (block_named p block)
  where
    begins : (z : Bool) → NoWrites (cond z (fault_of a faults.Deep ∷ []) (arguments_from (called_first a block) 1 vs))
    begins true = fault_none a faults.Deep
    begins false = arguments_none (called_first a block) 1 vs

    counted : (y : Bool) → NoWrites (cond y (begun a block vs) (fault_of a faults.Arity ∷ []))
    counted true = begins (depth a.context == 64)
    counted false = fault_none a faults.Arity

    by : (o : Option BlockParts) → NoWrites (called_on o a block vs)
    by None = fault_none a faults.Kind
    by (Some b) = counted (length vs == parameters_of b)
called_none p a vs = fault_none a faults.Kind

back_none : (a : Activity) (v : Value) (o : Option ℕ) → NoWrites (brought_back a v o)
back_none a v None = none
back_none a v (Some b) = more _ [] tt none

ended_none : (p : List BlockParts) (a : Activity) (r : Result Value FaultKind) → NoWrites (ended p a r)
ended_none p a (Err why) = fault_none a why
ended_none p a (Ok v) = by a.context
  where
    by : (u : Tree) → NoWrites (finished p a u v)
    by Top = more (entries.Answer v) [] tt none
    by (InLoop outer from number turn) = none
    by (InCall outer from caller turn) = back_none a v (back_of (statement_of p from caller))

one : (x e : Entry) → Contains (x ∷ []) e → x ≡ e
one x e m = elim (Contains-cons_cases x e [] m) [ inl p ↦ p | inr k ↦ absurd (Contains-nil e k) ]

-- of two writes that are one the writers are, and the values
one_write : (a b : Write) → entries.Write a ≡ entries.Write b → a ≡ b
one_write a b e = cc

same_writer : (c d : CellOf) (a w : Activity) (u v : Value) → wrote c a u ≡ wrote d w v → a ≡ w
same_writer c d a w u v e = ap (λ (x : Write). x.writer) (one_write (record { cell = c; writer = a; value = u }) (record { cell = d; writer = w; value = v }) e)

same_value_written : (c d : CellOf) (a w : Activity) (u v : Value) → wrote c a u ≡ wrote d w v → u ≡ v
same_value_written c d a w u v e = ap (λ (x : Write). x.value) (one_write (record { cell = c; writer = a; value = u }) (record { cell = d; writer = w; value = v }) e)

-- a `store` writes as itself
stored_by : (a : Activity) (r : Result CellOf FaultKind) (vs : ValueList) (c : CellOf) (w : Activity) (v : Value) → Contains (stored_in a r vs) (wrote c w v) → a ≡ w
stored_by a (Ok cell) (x ∷ y ∷ u ∷ vs) c w v m = same_writer cell c a w u v (one (wrote cell a u) (wrote c w v) m)
stored_by a (Ok cell) vs c w v m = absurd (fault_none a faults.Kind (wrote c w v) m)
stored_by a (Err why) vs c w v m = absurd (fault_none a why (wrote c w v) m)

-- of what a statement gives to an inner firing, a `store` alone gives a write
given_write : (version : Version) (p : List BlockParts) (s : StatementParts) (a : Activity) (vs : ValueList) (write : Option Written) (c : CellOf) (w : Activity) (v : Value) → Contains (given version p s a vs write) (wrote c w v) → (is_store s.kind ≡ true) × (a ≡ w)
given_write version p s a vs write c w v m = at (is_apply s.kind) (is_end s.kind) (is_store s.kind) refl m
  where
    at : (x y z : Bool) → is_store s.kind ≡ z → Contains (cond x (called p a vs) (cond y (ended p a (first_of vs)) (cond z (stored a vs) (handed_on version s.kind a (list_of s.kind s vs) (result_of s.kind a vs write))))) (wrote c w v) → (is_store s.kind ≡ true) × (a ≡ w)
    at true y z q m = absurd (called_none p a vs (wrote c w v) m)
    at false true z q m = absurd (ended_none p a (first_of vs) (wrote c w v) m)
    at false false true q m = (q, stored_by a (cell_named vs) vs c w v m)
    at false false false q m = absurd (handed_none version s.kind a (list_of s.kind s vs) (result_of s.kind a vs write) (wrote c w v) m)

no_store : (k : Kind) → is_ask k ≡ true → is_store k ≡ true → ⊥
no_store (Ask s n) e q = false≢true q
no_store k e q = false≢true e

module _ (job : JobParts) where
  -- what a reply gives
  reply_gives : (f : Firing) (r : IsReply job f) → gives_of job f ≡ wrote (cell_of f.activity 0) f.activity r.by.value ∷ []
  unfolding gives_of
  reply_gives f r =
      ap (λ (o : Option StatementParts). given_at job.program.version job.program.blocks o f) r.stands
      ∙ ap (λ (x : Bool). cond x (replied f.activity f.write) (given job.program.version job.program.blocks r.it f.activity f.values f.write)) (reply_answers job f r)
      ∙ ap (λ (w : Option Written). replied f.activity w) r.write
      ∙ ap (λ (z : Activity). wrote (cell_of f.activity 0) z r.by.value ∷ []) r.itself

  -- a write by an activity that asks is what a reply of it gives
  pub reply_wrote : (g : Firing) → is_firing_of job g ≡ true → (a : Activity) (s : StatementParts) → statement_of job.program.blocks a.block a.statement ≡ Some s → is_ask s.kind ≡ true → (c : CellOf) (v : Value) → Contains (gives_of job g) (wrote c a v) → (r : IsReply job g) × (g.activity ≡ a) × (r.by.value ≡ v)
  unfolding gives_of
  reply_wrote g x a s e q c v m = elim (inner_or_reply job g x) [ inr r ↦ by_reply r | inl o ↦ at o (statement_of job.program.blocks g.activity.block g.activity.statement) refl m ]
    where
      by_reply : IsReply job g → (r : IsReply job g) × (g.activity ≡ a) × (r.by.value ≡ v)
      by_reply r =
          let z : wrote (cell_of g.activity 0) g.activity r.by.value ≡ wrote c a v = one _ (wrote c a v) (subst (λ (es : List Entry). Contains es (wrote c a v)) (reply_gives g r) m) in
          (r, same_writer (cell_of g.activity 0) c g.activity a r.by.value v z, same_value_written (cell_of g.activity 0) c g.activity a r.by.value v z)

      stores : (t : StatementParts) → statement_of job.program.blocks g.activity.block g.activity.statement ≡ Some t → (is_store t.kind ≡ true) × (g.activity ≡ a) → ⊥
      stores t n y =
          let same : statement_of job.program.blocks g.activity.block g.activity.statement ≡ statement_of job.program.blocks a.block a.statement = ap (λ (z : Activity). statement_of job.program.blocks z.block z.statement) y.1 in
          let it : s ≡ t = (let i = n in let j = e in cc) in
          no_store t.kind (ap (λ (z : StatementParts). is_ask z.kind) (sym it) ∙ q) y.0

      at : is_inner_of job g ≡ true → (o : Option StatementParts) → statement_of job.program.blocks g.activity.block g.activity.statement ≡ o → Contains (given_at job.program.version job.program.blocks o g) (wrote c a v) → (r : IsReply job g) × (g.activity ≡ a) × (r.by.value ≡ v)
      at o None n m = absurd (Contains-nil (wrote c a v) m)
      at o (Some t) n m = by (is_answer t.kind g.write) refl m
        where
          by : (y : Bool) → is_answer t.kind g.write ≡ y → Contains (cond y (replied g.activity g.write) (given job.program.version job.program.blocks t g.activity g.values g.write)) (wrote c a v) → (r : IsReply job g) × (g.activity ≡ a) × (r.by.value ≡ v)
          by true z m = absurd (inner_no_answer job g o t n z)
          by false z m = absurd (stores t n (given_write job.program.version job.program.blocks t g.activity g.values g.write c a v m))

-- a quiet run with replies holds all that any run with them holds
pub quiet_is_whole : (job : JobParts) → QuietIsWhole job
quiet_is_whole job R fs q =
    Settled-is_Cl (system_of job) (MayFire job R) fs q.run q.only (λ f may en. elim may [ inl o ↦ q.quiet f (o, en.1) | inr r ↦ q.replied f r en ])

-- a write by an activity that asks was replied
pub replies_alone_write : (job : JobParts) → RepliesAloneWrite job
unfolding start_of
replies_alone_write job fs d a s e q c v (inl h) = absurd (cc)
replies_alone_write job fs d a s e q c v (inr (f, m, g)) =
    let r = reply_wrote job f (Derivation-enabled (system_of job) fs d f m).0 a s e q c v g in
    (f, m, record { reply = r.0; itself = r.1; said = r.2 })
