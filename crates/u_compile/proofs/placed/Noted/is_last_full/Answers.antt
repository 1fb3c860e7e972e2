use Rattle.std.proofs.Common.{subst}
use Rattle.u_compile.specs.Placed.{PlacedParts, IsLastFull}
use Rattle.u_compile.proofs.PlacedTests.{last_full}
use Rattle.u_compile.proofs.placed.Noted.is_last_full.Goals as goal

pub returns-in-Some : goal.returns-in-Some
returns-in-Some c = λ sure.
    subst (λ (p : PlacedParts). IsLastFull p.graph) c.self.view_is (last_full c.self.inside.graph c.drafts-drafts.result.now c.links-links.result.now c.len-last.result c.in-Some.draft.now c.drafts-drafts.ensures c.links-links.ensures c.len-last.ensures.len c.in-Some.ensures (c.is_full.ensures sure))
