use Rattle.u_determinate.proofs.keeps.Guarded.keeps_ends.Goals as goal

pub returns-else-not-is_end : goal.returns-else-not-is_end
returns-else-not-is_end c =
    ((λ t e. c.no_end_before.ensures.0 t), λ f. c.no_end_before.ensures.1 (f (c.is_end.ensures.0 c.if-not-is_end.false)))
