use Rattle.std.proofs.Common.{sym, ◌∙◌}
use Rattle.u_determinate.proofs.keeps.are_one.Goals as goal

pub returns-in-Some : goal.returns-in-Some
returns-in-Some c =
    ((λ t m n x y. c.all_are.ensures.0 t m x ∙ sym (c.all_are.ensures.0 t n y)), λ f. c.all_are.ensures.1 (λ n x. f n c.in-Some.first.now x (0, c.in-Some.ensures.lookup.3.0, sym c.in-Some.ensures.lookup.1)))
