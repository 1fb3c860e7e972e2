-- Which firings are no replies.
use Rattle.std.proofs.Common.{◌≡◌, ℕ, ap, sym, ◌∙◌, true, false, List, ◌∷◌, Some, inl, inr}
use Rattle.std.specs.List.{list_all}
use Rattle.std.proofs.lemmas.Bool.{false≢true}
use Rattle.u_value.specs.declared.value.Value.TheVariants as values
use Rattle.u_program.specs.declared.program.Kind.{Kind}
use Rattle.u_program.specs.declared.program.Kind.TheVariants.{End}
use Rattle.u_program.specs.Parts.{StatementParts}
use Rattle.u_check.specs.Jobs.{JobParts}
use Rattle.u_rule.specs.Parts.{TokenParts, ValueList}
use Rattle.u_rule.specs.Fits.{statement_of}
use Rattle.u_rule.specs.Structures.{is_plain, is_answer}
use Rattle.u_rule.specs.Rule.{is_firing_of, is_inner_of}
use Rattle.u_rule.specs.Replies.{IsReply}
use Rattle.u_rule.specs.declared.firing.Firing.{Firing}
use Rattle.u_rule.proofs.Firings.{inner_or_reply}
use Rattle.u_rule.proofs.Own.{reply_answers}
use Rattle.u_determinate.proofs.Givers.{Giver}

module _ (job : JobParts) (f : Firing) (is : is_firing_of job f ≡ true) where
  -- a firing whose statement takes its write for no reply
  pub inner_of_statement : (s : StatementParts) → statement_of job.program.blocks f.activity.block f.activity.statement ≡ Some s → is_answer s.kind f.write ≡ false → is_inner_of job f ≡ true
  inner_of_statement s e n = elim (inner_or_reply job f is) [ inl o ↦ o | inr r ↦ absurd (never r) ]
    where
      never : IsReply job f → ⊥
      never r =
          let it : r.it ≡ s = (let p = r.stands in cc) in
          false≢true (sym n ∙ ap (λ (z : StatementParts). is_answer z.kind f.write) (sym it) ∙ reply_answers job f r)

  -- an `end` asks nothing
  pub end_is_inner : (s : StatementParts) → statement_of job.program.blocks f.activity.block f.activity.statement ≡ Some s → s.kind ≡ End → is_inner_of job f ≡ true
  end_is_inner s e q = inner_of_statement s e (ap (λ (k : Kind). is_answer k f.write) q)

  -- nothing outside is told a procedure
  pub call_is_inner : (block : List ℕ) (rest : ValueList) → f.values ≡ values.Proc block ∷ rest → is_inner_of job f ≡ true
  call_is_inner block rest q = elim (inner_or_reply job f is) [ inl o ↦ o | inr r ↦ absurd (false≢true (sym (ap (list_all is_plain) q) ∙ r.plain)) ]

  -- what gives a token is no reply
  pub giver_is_inner : (t : TokenParts) → Giver job f t → is_inner_of job f ≡ true
  giver_is_inner t (inl b) = inner_of_statement b.it b.stands b.no_answer
  giver_is_inner t (inr (inl b)) = call_is_inner b.block b.rest b.values
  giver_is_inner t (inr (inr b)) = end_is_inner b.it b.stands b.is_end
