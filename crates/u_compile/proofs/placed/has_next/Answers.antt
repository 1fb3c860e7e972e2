use Rattle.std.proofs.Common.{List, sym, subst}
use Rattle.u_compile.specs.Drafts.{DraftParts}
use Rattle.u_compile.specs.Placed.{HasNext}
use Rattle.u_compile.proofs.PlacedTests.{next_more}
use Rattle.u_compile.proofs.placed.has_next.Goals as goal

pub loop-draft-preserved : goal.loop-draft-preserved
loop-draft-preserved c = λ rest.
    c.loop-draft.invariant (subst (λ (ds : List DraftParts). HasNext ds c.args.enter) (sym c.in-Some.ensures.cases.0) (next_more c.in-Some.draft.now c.in-Some.others.now c.args.enter rest))
