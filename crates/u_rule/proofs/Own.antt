-- Inner firings and replies: no firing is both; and a run of own firings is a run of the job.
use Rattle.std.proofs.Common.{◌≡◌, ◌==◌, ◌&&◌, ◌↔◌, ap, sym, refl, ◌∙◌, Bool, true, IsTrue, length, List, Option, Some, None, inl, inr}
use Rattle.std.specs.Prelude.{is_some}
use Rattle.std.proofs.lemmas.Bool.{false≢true, and_parts}
use Rattle.u_base.specs.Firing.{Enabled, Derivation, Cl, Whole}
use Rattle.u_program.specs.declared.program.Kind.{Kind}
use Rattle.u_program.specs.declared.program.Kind.TheVariants.{Ask}
use Rattle.u_program.specs.Parts.{StatementParts}
use Rattle.u_check.specs.Kinds.{ports_of, is_ask}
use Rattle.u_check.specs.Jobs.{JobParts}
use Rattle.u_rule.specs.Parts.{ValueList}
use Rattle.u_rule.specs.Fits.{statement_of, fits_at}
use Rattle.u_rule.specs.Structures.{has_its_write, is_answer}
use Rattle.u_rule.specs.Rule.{is_firing_of, is_inner_of, is_inner_at, has_its_values, system_of, own_of}
use Rattle.u_rule.specs.Replies.{IsReply}
use Rattle.u_rule.specs.declared.entry.Entry.{Entry}
use Rattle.u_rule.specs.declared.firing.Firing.{Firing}
use Rattle.u_rule.specs.declared.parts.Written.{Written}
use Rattle.u_rule.proofs.Firings.{inner_at_statement, own_is_firing, inner_or_reply}

-- a question has no write
asks_nothing : (k : Kind) (vs : ValueList) (write : Option Written) → is_answer k write ≡ true → has_its_write k vs write ≡ true → ⊥
asks_nothing (Ask s n) vs None e h = false≢true e
asks_nothing (Ask s n) vs (Some w) e h = false≢true h
asks_nothing k vs write e h = false≢true e

both : (a b : Bool) → a ≡ true → b ≡ true → (a && b) ≡ true
both a b p q = rw (p, q) refl

module _ (job : JobParts) (f : Firing) where
  -- an inner firing of an `ask` has no write
  pub inner_no_answer : is_inner_of job f ≡ true → (s : StatementParts) → statement_of job.program.blocks f.activity.block f.activity.statement ≡ Some s → is_answer s.kind f.write ≡ true → ⊥
  inner_no_answer o s q z =
      let k : is_inner_at job.program.blocks (Some s) f ≡ true = rw q at (inner_at_statement job f o) in
      let a = and_parts (fits_at job.program.blocks s.region f.activity) (has_its_values s f) k in
      let b = and_parts (length f.values == ports_of s.kind) (has_its_write s.kind f.values f.write) a.1 in
      asks_nothing s.kind f.values f.write z b.1

  -- and a reply has one
  pub reply_answers : (r : IsReply job f) → is_answer r.it.kind f.write ≡ true
  reply_answers r =
      let some : is_some f.write ≡ true = ap (λ (w : Option Written). is_some w) r.write in
      both (is_ask r.it.kind) (is_some f.write) r.asks some

  -- so none is both
  pub inner_is_no_reply : is_inner_of job f ≡ true → IsReply job f → ⊥
  inner_is_no_reply o r = inner_no_answer o r.it r.stands (reply_answers r)

  -- a firing of the job is a reply exactly where its statement asks and it has a write
  pub reply_if_answers : is_firing_of job f ≡ true → (s : StatementParts) → statement_of job.program.blocks f.activity.block f.activity.statement ≡ Some s → IsTrue (is_answer s.kind f.write) ↔ IsReply job f
  reply_if_answers is s q = (
    (λ z. elim (inner_or_reply job f is) [ inl o ↦ absurd (inner_no_answer o s q z) | inr r ↦ r ]),
    (λ r. let it : r.it ≡ s = (let p = r.stands in cc) in ap (λ (t : StatementParts). is_answer t.kind f.write) (sym it) ∙ reply_answers r),
  )

  -- and has a statement
  pub reply_stands : statement_of job.program.blocks f.activity.block f.activity.statement ≡ None → IsReply job f → ⊥
  reply_stands q r = (let p = r.stands in absurd (cc))

module _ (job : JobParts) where
  -- what is enabled as an own firing is enabled
  pub own_enabled : (H : Entry → Type 0) (f : Firing) → Enabled (own_of job) H f → Enabled (system_of job) H f
  own_enabled H f e = (own_is_firing job f e.0, e.1)

  -- a run of own firings is a run of the job
  pub own_run : (fs : List Firing) → Derivation (own_of job) fs → Derivation (system_of job) fs
  own_run fs d = record { each = λ k f p. (let e = d.each k f p in (own_is_firing job f e.0, e.1)) }

  pub own_closure : (M : Firing → Type 0) (e : Entry) → Cl (own_of job) M e → Cl (system_of job) M e
  own_closure M e (fs, d, within, h) = (fs, own_run fs d, within, h)

  pub own_whole : (e : Entry) → Whole (own_of job) e → Whole (system_of job) e
  own_whole e (fs, d, h) = (fs, own_run fs d, h)
