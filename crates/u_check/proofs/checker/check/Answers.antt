use Rattle.u_check.proofs.checker.check.Goals as goal

pub returns-in-Some-clause-exact : goal.returns-in-Some-clause-exact
returns-in-Some-clause-exact c =
    ((λ e. absurd (cc)), λ k. absurd (k.keeps_all _ _ _ (rw c.blocks-2.ensures.blocks at c.in-Some.ensures.first.here.breach)))
