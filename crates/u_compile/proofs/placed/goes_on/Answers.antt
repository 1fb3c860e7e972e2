use Rattle.std.proofs.Common.{List, sym, subst}
use Rattle.u_compile.specs.Drafts.{DraftParts}
use Rattle.u_compile.specs.Placed.{EachGoesOn}
use Rattle.u_compile.proofs.PlacedTests.{goes_more}
use Rattle.u_compile.proofs.placed.goes_on.Goals as goal

pub loop-draft-preserved : goal.loop-draft-preserved
loop-draft-preserved c = λ rest.
    let all = c.args.drafts.now in
    c.loop-draft.invariant (subst (λ (ds : List DraftParts). EachGoesOn ds all) (sym c.in-Some.ensures.cases.0) (goes_more c.in-Some.draft.now c.in-Some.others.now all (c.keeps_on.ensures c.if-not-keeps_on.false) rest))
