-- Questions and the replies to them, and which of these the table of a job has.
use Rattle.std.proofs.Common.{◌≡◌, ◌∙◌, ap, sym, subst, refl, eq-eqb, inl, inr, Bool, true, ◌&&◌, ◌==◌, cond, List, [], ◌∷◌, ◌++◌, length, Option, Some, None}
use Rattle.std.specs.Prelude.{is_some}
use Rattle.std.specs.List.{list_all}
use Rattle.std.proofs.lemmas.Bool.{false≢true, and_parts}
use Rattle.u_name.specs.Name.{Activity}
use Rattle.u_value.specs.declared.value.Value.{Value}
use Rattle.u_value.specs.declared.value.Value.TheVariants as values
use Rattle.u_program.specs.declared.program.Kind.{Kind}
use Rattle.u_program.specs.declared.program.Kind.TheVariants.{Ask}
use Rattle.u_program.specs.Parts.{StatementParts}
use Rattle.u_check.specs.Kinds.{ports_of, is_ask}
use Rattle.u_check.specs.Jobs.{JobParts}
use Rattle.u_rule.specs.Parts.{ValueList}
use Rattle.u_rule.specs.Fits.{statement_of, fits_at}
use Rattle.u_rule.specs.EntryOrder.{firing}
use Rattle.u_rule.specs.Initiations.{is_turn, has_turns, wrote_in_turns, fires_in_turns}
use Rattle.u_rule.specs.Structures.{is_plain, has_its_write, write_read}
use Rattle.u_rule.specs.Rule.{is_firing_of, is_inner_of, is_inner_at, is_own_of, has_its_values, tokens_from, needs_of}
use Rattle.u_rule.specs.Replies.{IsReply, IsTold, question_of, reply_to, reply_with, told_to, value_for}
use Rattle.u_rule.specs.declared.entry.Entry.{Entry}
use Rattle.u_rule.specs.declared.firing.Firing.{Firing}
use Rattle.u_rule.specs.declared.parts.Written.{Written}
use Rattle.u_rule.proofs.Firings.{in_turns, inner_or_told}
use Rattle.u_rule.proofs.FiringShapes.{rebuilt}
use Rattle.u_rule.proofs.Follow.{firing_fits}
use Rattle.u_rule.proofs.Own.{inner_no_answer}

both : (a b : Bool) → a ≡ true → b ≡ true → (a && b) ≡ true
both a b p q = rw (p, q) refl

-- a question has no write
asks_without : (k : Kind) (vs : ValueList) → is_ask k ≡ true → has_its_write k vs None ≡ true
asks_without (Ask s n) vs e = refl
asks_without k vs e = absurd (false≢true e)

-- numbers and truth values name no cell
plain_reads : (vs : ValueList) (w : Written) → list_all is_plain vs ≡ true → write_read vs (Some w) ≡ []
plain_reads [] w e = refl
plain_reads (values.Int z ∷ vs) w e = refl
plain_reads (values.Bool b ∷ vs) w e = refl
plain_reads (values.Proc b ∷ vs) w e = refl
plain_reads (values.Ref p ∷ vs) w e = absurd (false≢true e)

module _ (job : JobParts) where
  turns : (f : Firing) → fires_in_turns job.program.version f ≡ true → fires_in_turns job.program.version (question_of f) ≡ true
  unfolding fires_in_turns
  turns f h =
      let a = and_parts (is_turn job.program.version f.activity) (list_all (has_turns job.program.version) f.values && wrote_in_turns job.program.version f.write) h in
      let b = and_parts (list_all (has_turns job.program.version) f.values) (wrote_in_turns job.program.version f.write) a.1 in
      both (is_turn job.program.version f.activity) (list_all (has_turns job.program.version) f.values && true) a.0 (both (list_all (has_turns job.program.version) f.values) true b.0 refl)

  -- the question of a reply is an inner firing
  pub question_is_inner : (f : Firing) → is_firing_of job f ≡ true → IsReply job f → is_inner_of job (question_of f) ≡ true
  unfolding is_inner_of
  question_is_inner f x r =
      let fit = firing_fits job f r.it x r.stands in
      let form : has_its_values r.it (question_of f) ≡ true = both (length f.values == ports_of r.it.kind) (has_its_write r.it.kind f.values None) (eq-eqb (length f.values) (ports_of r.it.kind) r.count) (asks_without r.it.kind f.values r.asks) in
      let here : is_inner_at job.program.blocks (Some r.it) (question_of f) ≡ true = both (fits_at job.program.blocks r.it.region f.activity) (has_its_values r.it (question_of f)) fit form in
      let there : is_inner_at job.program.blocks (statement_of job.program.blocks f.activity.block f.activity.statement) (question_of f) ≡ true = ap (λ (o : Option StatementParts). is_inner_at job.program.blocks o (question_of f)) r.stands ∙ here in
      both (is_inner_at job.program.blocks (statement_of job.program.blocks f.activity.block f.activity.statement) (question_of f)) (fires_in_turns job.program.version (question_of f)) there (turns f (in_turns job f x))

  -- and needs what the reply needs
  pub question_needs : (f : Firing) → IsReply job f → needs_of (question_of f) ≡ needs_of f
  unfolding needs_of
  question_needs f r = ap (λ (es : List Entry). tokens_from f.activity 1 f.values ++ es) (sym (ap (write_read f.values) r.write ∙ plain_reads f.values r.by r.plain))

  -- a reply is the one of its value to its question
  pub reply_is : (f : Firing) (r : IsReply job f) → reply_to (question_of f) r.by.value ≡ f
  reply_is f r =
      let w : ◌≡◌ {A = Option Written} (Some (record { writer = f.activity; value = r.by.value })) f.write =
      ap (λ (a : Activity). Some (record { writer = a; value = r.by.value })) (sym r.itself) ∙ sym r.write in
      ap (λ (o : Option Written). firing f.activity f.values o) w

  -- the table's reply to the question is found
  pub told_found : (f q : Firing) (s : StatementParts) → statement_of job.program.blocks q.activity.block q.activity.statement ≡ Some s → IsTold job f → q ≡ question_of f → told_to job.table s.kind q ≡ Some f
  told_found f q s n t e =
      subst (λ (x : Firing). told_to job.table s.kind x ≡ Some f) (sym e)
      (ap (reply_with (question_of f)) (ap (λ (z : StatementParts). value_for job.table z.kind f.values) (sym it) ∙ t.said) ∙ ap (λ (x : Firing). Some x) (reply_is f t.reply))
    where
      here : statement_of job.program.blocks f.activity.block f.activity.statement ≡ Some s
      here = subst (λ (x : Firing). statement_of job.program.blocks x.activity.block x.activity.statement ≡ Some s) e n

      it : t.reply.it ≡ s
      it = (let i = t.reply.stands in let j = here in cc)

  asked_kind : (k : Kind) (vs : ValueList) (v : Value) → value_for job.table k vs ≡ Some v → is_ask k ≡ true
  asked_kind (Ask service n) vs v e = refl
  asked_kind k vs v e = cc

  -- and what is found is that, where it is an own firing
  pub told_only : (f q : Firing) (s : StatementParts) → statement_of job.program.blocks q.activity.block q.activity.statement ≡ Some s → is_own_of job f ≡ true → told_to job.table s.kind q ≡ Some f → IsTold job f × (q ≡ question_of f)
  told_only f q s n o = by q.write refl
    where
      found : q.write ≡ None → (v : Value) → value_for job.table s.kind q.values ≡ Some v → reply_to q v ≡ f → IsTold job f × (q ≡ question_of f)
      found none v e is =
          let whole : q ≡ firing q.activity q.values None = rebuilt q q.values None none refl in
          let back : question_of (reply_to q v) ≡ question_of f = ap question_of is in
          let here : statement_of job.program.blocks f.activity.block f.activity.statement ≡ Some s = subst (λ (x : Firing). statement_of job.program.blocks x.activity.block x.activity.statement ≡ Some s) is n in
          let some : is_some f.write ≡ true = subst (λ (x : Firing). is_some x.write ≡ true) is refl in
          elim (inner_or_told job f o) [
            | inl i ↦ absurd (inner_no_answer job f i s here (both (is_ask s.kind) (is_some f.write) (asked_kind s.kind q.values v e) some))
            | inr t ↦ (t, whole ∙ back)
          ]

      valued : q.write ≡ None → (x : Option Value) → value_for job.table s.kind q.values ≡ x → reply_with q x ≡ Some f → IsTold job f × (q ≡ question_of f)
      valued none None e h = absurd (cc)
      valued none (Some v) e h = found none v e (cc)

      by : (w : Option Written) → q.write ≡ w → cond (is_some w) None (reply_with q (value_for job.table s.kind q.values)) ≡ Some f → IsTold job f × (q ≡ question_of f)
      by (Some w) e h = absurd (cc)
      by None e h = valued e (value_for job.table s.kind q.values) refl h
