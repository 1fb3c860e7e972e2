-- A firing that gives an entry needs only what matters to it.
use Rattle.std.proofs.Common.{◌≡◌, ℕ, suc, ◌+◌, List, [], ◌∷◌, ◌⊎◌, inl, inr, refl, sym, subst, ◌∙◌, ap, map, Bool, true, false, cond, ◌||◌, Option, Some, None, arith}
use Rattle.std.specs.Prelude.{Contains, ◌==◌, Result, Ok, Err}
use Rattle.std.proofs.lemmas.Bool.{eq-eqb, false≢true}
use Rattle.std.proofs.lemmas.List.Elements.{Contains-append_cases}
use Rattle.u_base.proofs.Member.{Contains-nil, Contains-cons_cases}
use Rattle.u_name.specs.Name.{Activity}
use Rattle.u_name.specs.Cell.{CellOf, cell_of}
use Rattle.u_value.specs.declared.value.Value.{Value}
use Rattle.u_value.specs.declared.value.Value.TheVariants as values
use Rattle.u_value.specs.declared.fault_kind.FaultKind.{FaultKind}
use Rattle.u_program.specs.Parts.{StatementParts}
use Rattle.u_program.specs.declared.program.Kind.{Kind}
use Rattle.u_program.specs.declared.program.Kind.TheVariants.{Enter, Next, Last, Leave, Switch}
use Rattle.u_program.specs.declared.program.Destination.{Destination}
use Rattle.u_check.specs.Jobs.{JobParts}
use Rattle.u_check.specs.Kinds.{is_apply, is_end, is_store, is_leave}
use Rattle.u_rule.specs.Parts.{TokenParts, ValueList, token}
use Rattle.u_rule.specs.Fits.{statement_of}
use Rattle.u_rule.specs.Structures.{cell_named, stored_in, wrote, read_from, write_read, is_answer, replied}
use Rattle.u_rule.specs.Rule.{first_of, result_of, list_of, reached, refusal_of, sent, fault_of, delivered, handed_on, called, ended, given, given_at, gives_of, tokens_from, needs_of}
use Rattle.u_rule.specs.declared.entry.Entry.{Entry}
use Rattle.u_rule.specs.declared.entry.Entry.TheVariants as entries
use Rattle.u_rule.specs.declared.firing.Firing.{Firing}
use Rattle.u_rule.specs.declared.parts.Written.{Written}
use Rattle.u_trace.specs.Sending.{leads_to, may_send, may_send_at, may_give, matters}

either_right : (a b : Bool) → b ≡ true → (a || b) ≡ true
either_right true b e = refl
either_right false b e = e

leads : (ds : List Destination) (d : Destination) (n : ℕ) → Contains ds d → d.statement ≡ n → leads_to ds n ≡ true
leads [] d n m e = absurd (Contains-nil d m)
leads (x ∷ xs) d n m e =
    elim (Contains-cons_cases x d xs m) [
      | inl q ↦ ap (λ (b : Bool). b || leads_to xs n) (eq-eqb x.statement n (ap (λ (y : Destination). y.statement) q ∙ e))
      | inr k ↦ either_right (x.statement == n) (leads_to xs n) (leads xs d n k e)
    ]

reached_at : (k : Kind) (a : Activity) (n : ℕ) → is_leave k ≡ false → (reached k a n).statement ≡ n
reached_at (Enter l) a n e = refl
reached_at Next a n e = refl
reached_at Last a n e = refl
reached_at Leave a n e = absurd (false≢true (sym e))
reached_at k a n e = refl

lists : (k : Kind) (s : StatementParts) (vs : ValueList) (d : Destination) → Contains (list_of k s vs) d → Contains s.to d ⊎ Contains s.otherwise d
lists Switch s (v ∷ values.Bool false ∷ vs) d m = inr m
lists Switch s vs d m = inl m
lists k s vs d m = inl m

one : (x e : Entry) → Contains (x ∷ []) e → x ≡ e
one x e m = elim (Contains-cons_cases x e [] m) [ inl p ↦ p | inr k ↦ absurd (Contains-nil e k) ]

mapped : (to : ℕ → Activity) (v : Value) (ds : List Destination) (x : Entry) → Contains (map (sent to v) ds) x → (d : Destination) × Contains ds d × (sent to v d ≡ x)
mapped to v [] x m = absurd (Contains-nil x m)
mapped to v (d ∷ ds) x m =
    elim (Contains-cons_cases (sent to v d) x (map (sent to v) ds) m)
    [ inl p ↦ (d, (0, omega arith, refl), p) | inr k ↦ (let q = mapped to v ds x k in (q.0, (suc q.1.0, omega (arith, q.1.1), q.1.2), q.2)) ]

module _ (job : JobParts) (f : Firing) (s : StatementParts) where
  -- a token that is handed on goes to a destination
  along : (t : TokenParts) → is_leave s.kind ≡ false → (r : Result Value FaultKind) → Contains (handed_on job.program.version s.kind f.activity (list_of s.kind s f.values) r) (entries.Token t) → (leads_to s.to t.activity.statement || leads_to s.otherwise t.activity.statement) ≡ true
  along t w (Err k) m = let e = one (fault_of f.activity k) (entries.Token t) m in absurd (cc)
  along t w (Ok v) m = by (refusal_of job.program.version s.kind f.activity) m
    where
      led : (d : Destination) → sent (reached s.kind f.activity) v d ≡ entries.Token t → Contains s.to d ⊎ Contains s.otherwise d → (leads_to s.to t.activity.statement || leads_to s.otherwise t.activity.statement) ≡ true
      led d e m =
          let h : token (reached s.kind f.activity d.statement) d.port v ≡ t = cc in
          let n : d.statement ≡ t.activity.statement = sym (reached_at s.kind f.activity d.statement w) ∙ ap (λ (x : TokenParts). x.activity.statement) h in
          elim m [
            | inl k ↦ ap (λ (b : Bool). b || leads_to s.otherwise t.activity.statement) (leads s.to d t.activity.statement k n)
            | inr k ↦ either_right (leads_to s.to t.activity.statement) (leads_to s.otherwise t.activity.statement) (leads s.otherwise d t.activity.statement k n)
          ]

      by : (o : Option FaultKind) → Contains (delivered o s.kind f.activity (list_of s.kind s f.values) v) (entries.Token t) → (leads_to s.to t.activity.statement || leads_to s.otherwise t.activity.statement) ≡ true
      by (Some k) m = let e = one (fault_of f.activity k) (entries.Token t) m in absurd (cc)
      by None m = let q = mapped (reached s.kind f.activity) v (list_of s.kind s f.values) (entries.Token t) m in led q.0 q.2 (lists s.kind s f.values q.0 q.1)

  -- an answer is not handed on
  no_answer : (v : Value) (r : Result Value FaultKind) → Contains (handed_on job.program.version s.kind f.activity (list_of s.kind s f.values) r) (entries.Answer v) → ⊥
  no_answer v (Err k) m = let e = one (fault_of f.activity k) (entries.Answer v) m in cc
  no_answer v (Ok u) m = by (refusal_of job.program.version s.kind f.activity) m
    where
      by : (o : Option FaultKind) → Contains (delivered o s.kind f.activity (list_of s.kind s f.values) u) (entries.Answer v) → ⊥
      by (Some k) m = let e = one (fault_of f.activity k) (entries.Answer v) m in cc
      by None m = let q = mapped (reached s.kind f.activity) u (list_of s.kind s f.values) (entries.Answer v) m in let e = q.2 in cc

  abbrev Gives : Bool → Bool → Bool → Entry → Type 0
  Gives x y z e = Contains (cond x (called job.program.blocks f.activity f.values) (cond y (ended job.program.blocks f.activity (first_of f.values)) (cond z (stored_in f.activity (cell_named f.values) f.values) (handed_on job.program.version s.kind f.activity (list_of s.kind s f.values) (result_of s.kind f.activity f.values f.write))))) e

  token_sent : (t : TokenParts) (x y z w : Bool) → is_leave s.kind ≡ w → Gives x y z (entries.Token t) → ((x || (y || (z || w))) || (leads_to s.to t.activity.statement || leads_to s.otherwise t.activity.statement)) ≡ true
  token_sent t true y z w e m = refl
  token_sent t false true z w e m = refl
  token_sent t false false true w e m = refl
  token_sent t false false false true e m = refl
  token_sent t false false false false e m = along t e (result_of s.kind f.activity f.values f.write) m

  answer_sent : (v : Value) (x y z w : Bool) → Gives x y z (entries.Answer v) → (x || (y || (z || w))) ≡ true
  answer_sent v true y z w m = refl
  answer_sent v false true z w m = refl
  answer_sent v false false true w m = refl
  answer_sent v false false false w m = absurd (no_answer v (result_of s.kind f.activity f.values f.write) m)

  sends : (e : Entry) → Contains (given job.program.version job.program.blocks s f.activity f.values f.write) e → may_send s e ≡ true
  sends (entries.Token t) m = token_sent t (is_apply s.kind) (is_end s.kind) (is_store s.kind) (is_leave s.kind) refl m
  sends (entries.Write w) m = refl
  sends (entries.Fault x) m = refl
  sends (entries.Answer v) m = answer_sent v (is_apply s.kind) (is_end s.kind) (is_store s.kind) (is_leave s.kind) m

-- what a reply gives is a write
replied_sent : (s : StatementParts) (a : Activity) (write : Option Written) (e : Entry) → Contains (replied a write) e → may_send s e ≡ true
replied_sent s a None e m = absurd (Contains-nil e m)
replied_sent s a (Some w) e m = subst (λ (x : Entry). may_send s x ≡ true) (one (wrote (cell_of a 0) w.writer w.value) e m) refl

pub gives_may : (job : JobParts) (f : Firing) (e : Entry) → Contains (gives_of job f) e → may_give job f.activity e ≡ true
unfolding gives_of
gives_may job f e m = at (statement_of job.program.blocks f.activity.block f.activity.statement) m
  where
    at : (o : Option StatementParts) → Contains (given_at job.program.version job.program.blocks o f) e → may_send_at o e ≡ true
    at None m = refl
    at (Some s) m = by (is_answer s.kind f.write) m
      where
        by : (x : Bool) → Contains (cond x (replied f.activity f.write) (given job.program.version job.program.blocks s f.activity f.values f.write)) e → may_send s e ≡ true
        by true k = replied_sent s f.activity f.write e k
        by false k = sends job f s e k

module _ (job : JobParts) (e : Entry) where
  tokens_matter : (a : Activity) (p : ℕ) (vs : ValueList) (x : Entry) → may_give job a e ≡ true → Contains (tokens_from a p vs) x → matters job e x ≡ true
  tokens_matter a p [] x h m = absurd (Contains-nil x m)
  tokens_matter a p (v ∷ vs) x h m =
      elim (Contains-cons_cases (entries.Token (token a p v)) x (tokens_from a (p + 1) vs) m)
      [ inl q ↦ subst (λ (y : Entry). matters job e y ≡ true) q h | inr k ↦ tokens_matter a (p + 1) vs x h k ]

  writes_matter : (vs : ValueList) (w : Option Written) (x : Entry) → Contains (write_read vs w) x → matters job e x ≡ true
  writes_matter vs None x m = absurd (Contains-nil x m)
  writes_matter vs (Some w) x m = at (cell_named vs) m
    where
      at : (r : Result CellOf FaultKind) → Contains (read_from r w) x → matters job e x ≡ true
      at (Ok cell) m = subst (λ (y : Entry). matters job e y ≡ true) (one (wrote cell w.writer w.value) x m) refl
      at (Err k) m = absurd (Contains-nil x m)

  pub needs_matter : (f : Firing) → Contains (gives_of job f) e → (x : Entry) → Contains (needs_of f) x → matters job e x ≡ true
  unfolding needs_of
  needs_matter f g x m =
      elim (Contains-append_cases (tokens_from f.activity 1 f.values) (write_read f.values f.write) x m)
      [ inl k ↦ tokens_matter f.activity 1 f.values x (gives_may job f e g) k | inr k ↦ writes_matter f.values f.write x k ]
