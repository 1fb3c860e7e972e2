use Rattle.std.proofs.Common.{sym, ◌∙◌}
use Rattle.std.proofs.lemmas.Bool.{false≢true}
use Rattle.std.proofs.lemmas.List.{get_or_default}
use Rattle.u_determinate.proofs.marking.is_alone.Goals as goal

pub returns-then-not-is_arc : goal.returns-then-not-is_arc
returns-then-not-is_arc c =
    ((λ t. absurd (false≢true t)), λ h. absurd (false≢true (sym c.if-not-is_arc.true ∙ c.is_arc.ensures.1 (h _ (c.loop-other.other-index, c.loop-other-test.true, get_or_default c.args.links.now c.loop-other.other-index _ _ c.loop-other-test.true) c.if-other-link.true))))
