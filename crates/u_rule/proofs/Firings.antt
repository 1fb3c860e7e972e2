-- The two halves of what a firing of a job is; and each is an inner one or a reply, and an own one or a reply
-- that the table lacks.
use Rattle.std.proofs.Common.{◌≡◌, ◌∙◌, ap, sym, eq-eqb, ℕ, Bool, true, false, ◌&&◌, ◌||◌, ◌==◌, ◌⊎◌, inl, inr, refl, length, Option, Some, None}
use Rattle.std.specs.List.{list_all}
use Rattle.std.specs.Cmp.{tied_itself, Equal-is}
use Rattle.std.specs.Ordering.{eq_by_cmp, is_eq}
use Rattle.std.proofs.lemmas.Bool.{false≢true, and_parts, or_cases, or_right, eqb-true}
use Rattle.u_name.specs.NameOrder.{name_cmp}
use Rattle.u_value.specs.declared.value.Value.{Value}
use Rattle.u_value.specs.Values.{value_cmp}
use Rattle.u_value.specs.ExactOrders.{value_cmp_total, value_cmp_ties}
use Rattle.u_program.specs.declared.program.Kind.{Kind}
use Rattle.u_program.specs.Parts.{StatementParts}
use Rattle.u_check.specs.Kinds.{ports_of, is_ask}
use Rattle.u_check.specs.Jobs.{JobParts}
use Rattle.u_check.specs.Tables.{TableRows}
use Rattle.u_rule.specs.Parts.{ValueList}
use Rattle.u_rule.specs.Fits.{statement_of, fits_at}
use Rattle.u_rule.specs.Initiations.{fires_in_turns}
use Rattle.u_rule.specs.Structures.{is_plain, has_its_write, answers}
use Rattle.u_rule.specs.Rule.{is_firing_of, is_firing_at, is_inner_of, is_inner_at, is_own_of, is_own_at, is_reply_at, is_known, says, is_told_at, has_its_values, has_own_form, has_its_form}
use Rattle.u_rule.specs.Replies.{IsReply, IsTold, IsUntold, value_for}
use Rattle.u_rule.specs.declared.firing.Firing.{Firing}
use Rattle.u_rule.specs.declared.parts.Written.{Written}
use Rattle.u_rule.proofs.Cells.{same_name}

module _ (job : JobParts) (f : Firing) (is : is_firing_of job f ≡ true) where
  halves : (is_firing_at job.program.blocks (statement_of job.program.blocks f.activity.block f.activity.statement) f ≡ true) × (fires_in_turns job.program.version f ≡ true)
  unfolding is_firing_of
  halves = and_parts _ _ is

  -- it is one of its statement
  pub at_statement : is_firing_at job.program.blocks (statement_of job.program.blocks f.activity.block f.activity.statement) f ≡ true
  at_statement = halves.0

  -- its initiations are those that a job has
  pub in_turns : fires_in_turns job.program.version f ≡ true
  in_turns = halves.1

-- the same of an inner firing
module _ (job : JobParts) (f : Firing) (is : is_inner_of job f ≡ true) where
  inner_halves : (is_inner_at job.program.blocks (statement_of job.program.blocks f.activity.block f.activity.statement) f ≡ true) × (fires_in_turns job.program.version f ≡ true)
  unfolding is_inner_of
  inner_halves = and_parts _ _ is

  pub inner_at_statement : is_inner_at job.program.blocks (statement_of job.program.blocks f.activity.block f.activity.statement) f ≡ true
  inner_at_statement = inner_halves.0

-- the same of an own firing
module _ (job : JobParts) (f : Firing) (is : is_own_of job f ≡ true) where
  own_halves : (is_own_at job.table job.program.blocks (statement_of job.program.blocks f.activity.block f.activity.statement) f ≡ true) × (fires_in_turns job.program.version f ≡ true)
  unfolding is_own_of
  own_halves = and_parts _ _ is

  pub own_at_statement : is_own_at job.table job.program.blocks (statement_of job.program.blocks f.activity.block f.activity.statement) f ≡ true
  own_at_statement = own_halves.0

both : (a b : Bool) → a ≡ true → b ≡ true → (a && b) ≡ true
both a b p q = rw (p, q) refl

either : (a b : Bool) → a ≡ true → (a || b) ≡ true
either a b p = rw p refl

or_right_true : (a b : Bool) → b ≡ true → (a || b) ≡ true
or_right_true a b p = or_right a b p

-- what is known is that value
known_is : (o : Option Value) (v : Value) → is_known o v ≡ true → o ≡ Some v
known_is None v h = absurd (false≢true h)
known_is (Some u) v h = ap (λ (x : Value). Some x) (value_cmp_ties u v ((Equal-is (value_cmp u v)).0 h))

is_it : (o : Option Value) (v : Value) → o ≡ Some v → is_known o v ≡ true
is_it o v e = ap (λ (x : Option Value). is_known x v) e ∙ ap is_eq (tied_itself value_cmp_total v)

-- what the table says is the value of the write
says_it : (table : TableRows) (k : Kind) (vs : ValueList) (w : Written) → says table k vs (Some w) ≡ true → value_for table k vs ≡ Some w.value
says_it table k vs w h = known_is (value_for table k vs) w.value h

it_says : (table : TableRows) (k : Kind) (vs : ValueList) (w : Written) → value_for table k vs ≡ Some w.value → says table k vs (Some w) ≡ true
it_says table k vs w h = is_it (value_for table k vs) w.value h

eqb-itself : (a b : ℕ) → a ≡ b → (a == b) ≡ true
eqb-itself a b e = eq-eqb a b e

module _ (job : JobParts) (f : Firing) where
  reply_of : (s : StatementParts) → statement_of job.program.blocks f.activity.block f.activity.statement ≡ Some s → is_reply_at s f ≡ true → IsReply job f
  reply_of s q h =
      let a = and_parts (is_ask s.kind) (length f.values == ports_of s.kind && answers f.activity f.values f.write) h in
      let b = and_parts (length f.values == ports_of s.kind) (answers f.activity f.values f.write) a.1 in
      at f.write refl b.1
    where
      at : (w : Option Written) → f.write ≡ w → answers f.activity f.values w ≡ true → IsReply job f
      at None e k = absurd (false≢true k)
      at (Some w) e k =
          let a = and_parts (is_ask s.kind) (length f.values == ports_of s.kind && answers f.activity f.values f.write) h in
          let b = and_parts (length f.values == ports_of s.kind) (answers f.activity f.values f.write) a.1 in
          let c = and_parts (eq_by_cmp name_cmp w.writer f.activity) (list_all is_plain f.values && is_plain w.value) k in
          let d = and_parts (list_all is_plain f.values) (is_plain w.value) c.1 in
          record {
            it = s;
            stands = q;
            asks = a.0;
            count = eqb-true (length f.values) (ports_of s.kind) b.0;
            by = w;
            write = e;
            itself = (same_name w.writer f.activity).0 c.0;
            plain = d.0;
            value = d.1;
          }

  -- it has a reply's form
  form_of : (r : IsReply job f) → is_reply_at r.it f ≡ true
  form_of r =
      let w : answers f.activity f.values (Some r.by) ≡ true =
      both (eq_by_cmp name_cmp r.by.writer f.activity) (list_all is_plain f.values && is_plain r.by.value) ((same_name r.by.writer f.activity).1 r.itself)
      (both (list_all is_plain f.values) (is_plain r.by.value) r.plain r.value) in
      let a : answers f.activity f.values f.write ≡ true = ap (λ (o : Option Written). answers f.activity f.values o) r.write ∙ w in
      both (is_ask r.it.kind) (length f.values == ports_of r.it.kind && answers f.activity f.values f.write) r.asks
      (both (length f.values == ports_of r.it.kind) (answers f.activity f.values f.write) (eqb-itself (length f.values) (ports_of r.it.kind) r.count) a)

  -- a firing is an inner one or a reply
  pub inner_or_reply : is_firing_of job f ≡ true → (is_inner_of job f ≡ true) ⊎ IsReply job f
  unfolding is_inner_of
  inner_or_reply h = at (statement_of job.program.blocks f.activity.block f.activity.statement) refl (at_statement job f h)
    where
      turns : fires_in_turns job.program.version f ≡ true
      turns = in_turns job f h

      at : (o : Option StatementParts) → statement_of job.program.blocks f.activity.block f.activity.statement ≡ o → is_firing_at job.program.blocks o f ≡ true → ((is_inner_at job.program.blocks o f && fires_in_turns job.program.version f) ≡ true) ⊎ IsReply job f
      at None q k = absurd (false≢true k)
      at (Some s) q k =
          let a = and_parts (fits_at job.program.blocks s.region f.activity) (has_its_form s f) k in
          elim (or_cases (has_its_values s f) (is_reply_at s f) a.1) [
            | inl v ↦ inl (both (is_inner_at job.program.blocks (Some s) f) (fires_in_turns job.program.version f) (both (fits_at job.program.blocks s.region f.activity) (has_its_values s f) a.0 v) turns)
            | inr r ↦ inr (reply_of s q r)
          ]

  told_at : (s : StatementParts) → statement_of job.program.blocks f.activity.block f.activity.statement ≡ Some s → is_told_at job.table s f ≡ true → IsTold job f
  told_at s q h =
      let a = and_parts (is_reply_at s f) (says job.table s.kind f.values f.write) h in
      let r = reply_of s q a.0 in
      let it : r.it ≡ s = (let p = r.stands in cc) in
      let k : says job.table r.it.kind f.values (Some r.by) ≡ true = ap (λ (t : StatementParts). says job.table t.kind f.values (Some r.by)) it ∙ ap (λ (o : Option Written). says job.table s.kind f.values o) (sym r.write) ∙ a.1 in
      record { reply = r; said = says_it job.table r.it.kind f.values r.by k }

  -- an own firing is an inner one, or a reply that the table has
  pub inner_or_told : is_own_of job f ≡ true → (is_inner_of job f ≡ true) ⊎ IsTold job f
  unfolding is_inner_of
  inner_or_told h = at (statement_of job.program.blocks f.activity.block f.activity.statement) refl (own_at_statement job f h)
    where
      turns : fires_in_turns job.program.version f ≡ true
      turns = (own_halves job f h).1

      at : (o : Option StatementParts) → statement_of job.program.blocks f.activity.block f.activity.statement ≡ o → is_own_at job.table job.program.blocks o f ≡ true → ((is_inner_at job.program.blocks o f && fires_in_turns job.program.version f) ≡ true) ⊎ IsTold job f
      at None q k = absurd (false≢true k)
      at (Some s) q k =
          let a = and_parts (fits_at job.program.blocks s.region f.activity) (has_own_form job.table s f) k in
          elim (or_cases (has_its_values s f) (is_told_at job.table s f) a.1) [
            | inl v ↦ inl (both (is_inner_at job.program.blocks (Some s) f) (fires_in_turns job.program.version f) (both (fits_at job.program.blocks s.region f.activity) (has_its_values s f) a.0 v) turns)
            | inr r ↦ inr (told_at s q r)
          ]

  inner_owns : (o : Option StatementParts) → is_inner_at job.program.blocks o f ≡ true → is_own_at job.table job.program.blocks o f ≡ true
  inner_owns None h = h
  inner_owns (Some s) h =
      let k = and_parts (fits_at job.program.blocks s.region f.activity) (has_its_values s f) h in
      both (fits_at job.program.blocks s.region f.activity) (has_own_form job.table s f) k.0 (either (has_its_values s f) (is_told_at job.table s f) k.1)

  -- an inner firing is an own one
  pub inner_is_own : is_inner_of job f ≡ true → is_own_of job f ≡ true
  unfolding is_own_of
  inner_is_own h =
      let o = statement_of job.program.blocks f.activity.block f.activity.statement in
      both (is_own_at job.table job.program.blocks o f) (fires_in_turns job.program.version f) (inner_owns o (inner_at_statement job f h)) (inner_halves job f h).1

  -- and so is a reply that the table has
  pub told_is_own : is_firing_of job f ≡ true → IsTold job f → is_own_of job f ≡ true
  unfolding is_own_of
  told_is_own h t =
      let r = t.reply in
      let o = statement_of job.program.blocks f.activity.block f.activity.statement in
      let form = form_of r in
      let k : says job.table r.it.kind f.values f.write ≡ true = ap (λ (w : Option Written). says job.table r.it.kind f.values w) r.write ∙ it_says job.table r.it.kind f.values r.by t.said in
      let fit : fits_at job.program.blocks r.it.region f.activity ≡ true = (and_parts (fits_at job.program.blocks r.it.region f.activity) (has_its_form r.it f) (ap (λ (x : Option StatementParts). is_firing_at job.program.blocks x f) (sym r.stands) ∙ at_statement job f h)).0 in
      let own : has_own_form job.table r.it f ≡ true = or_right_true (has_its_values r.it f) (is_told_at job.table r.it f) (both (is_reply_at r.it f) (says job.table r.it.kind f.values f.write) form k) in
      let there : is_own_at job.table job.program.blocks o f ≡ true = ap (λ (x : Option StatementParts). is_own_at job.table job.program.blocks x f) r.stands ∙ both (fits_at job.program.blocks r.it.region f.activity) (has_own_form job.table r.it f) fit own in
      both (is_own_at job.table job.program.blocks o f) (fires_in_turns job.program.version f) there (in_turns job f h)

  own_fires : (o : Option StatementParts) → is_own_at job.table job.program.blocks o f ≡ true → is_firing_at job.program.blocks o f ≡ true
  own_fires None h = h
  own_fires (Some s) h =
      let k = and_parts (fits_at job.program.blocks s.region f.activity) (has_own_form job.table s f) h in
      let form : has_its_form s f ≡ true =
      elim (or_cases (has_its_values s f) (is_told_at job.table s f) k.1) [
        | inl v ↦ either (has_its_values s f) (is_reply_at s f) v
        | inr t ↦ or_right_true (has_its_values s f) (is_reply_at s f) (and_parts (is_reply_at s f) (says job.table s.kind f.values f.write) t).0
      ] in
      both (fits_at job.program.blocks s.region f.activity) (has_its_form s f) k.0 form

  -- an own firing is one
  pub own_is_firing : is_own_of job f ≡ true → is_firing_of job f ≡ true
  unfolding is_firing_of
  own_is_firing h =
      let o = statement_of job.program.blocks f.activity.block f.activity.statement in
      both (is_firing_at job.program.blocks o f) (fires_in_turns job.program.version f) (own_fires o (own_at_statement job f h)) (own_halves job f h).1

  -- a firing is an own one, or a reply that the table lacks
  pub own_or_reply : is_firing_of job f ≡ true → (is_own_of job f ≡ true) ⊎ IsUntold job f
  own_or_reply h = at (is_own_of job f) refl
    where
      at : (b : Bool) → is_own_of job f ≡ b → (is_own_of job f ≡ true) ⊎ IsUntold job f
      at true e = inl e
      at false e = elim (inner_or_reply h) [
        | inl i ↦ inl (inner_is_own i)
        | inr r ↦ inr (record { reply = r; unsaid = λ s. false≢true (sym e ∙ told_is_own h (record { reply = r; said = s })) })
      ]

module _ (job : JobParts) (f : Firing) (s : StatementParts) (stands : statement_of job.program.blocks f.activity.block f.activity.statement ≡ Some s) where
  -- an inner firing of a statement has one value for each port, and a write where it reads a cell
  pub inner_values : is_inner_of job f ≡ true → has_its_values s f ≡ true
  inner_values i =
      (and_parts (fits_at job.program.blocks s.region f.activity) (has_its_values s f) (ap (λ (o : Option StatementParts). is_inner_at job.program.blocks o f) (sym stands) ∙ inner_at_statement job f i)).1

  -- an own firing of a statement has one value for each port
  pub own_counted : is_own_of job f ≡ true → length f.values ≡ ports_of s.kind
  own_counted h = elim (inner_or_told job f h) [
    | inl i ↦ eqb-true (length f.values) (ports_of s.kind) (and_parts (length f.values == ports_of s.kind) (has_its_write s.kind f.values f.write) (inner_values i)).0
    | inr t ↦ (let it : t.reply.it ≡ s = (let p = t.reply.stands in cc) in t.reply.count ∙ ap (λ (z : StatementParts). ports_of z.kind) it)
  ]
