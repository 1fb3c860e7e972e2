use Rattle.std.proofs.Common.{◌∙◌, List, inl, inr, sym, subst}
use Rattle.std.proofs.lemmas.Bool.{false≢true}
use Rattle.u_compile.specs.Drafts.{DraftParts}
use Rattle.u_compile.specs.Placed.{IsUntested}
use Rattle.u_compile.proofs.PlacedTests.{untested_more}
use Rattle.u_compile.proofs.placed.is_untested.Goals as goal

pub loop-draft-preserved : goal.loop-draft-preserved
loop-draft-preserved c = λ rest.
    c.loop-draft.invariant (subst (λ (ds : List DraftParts). IsUntested ds c.args.region) (sym c.in-Some.ensures.cases.0) (untested_more c.in-Some.draft.now c.in-Some.others.now c.args.region (λ r k. elim k [
      | inl q ↦ false≢true (sym c.if-is_tested.false ∙ c.is_tested.ensures.next r q)
      | inr q ↦ false≢true (sym c.if-is_tested.false ∙ c.is_tested.ensures.last r q)
    ]) rest))
