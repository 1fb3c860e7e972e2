use Rattle.std.proofs.Common.{arith, refl, sym, ◌∙◌}
use Rattle.std.proofs.lemmas.Bool.{false≢true}
use Rattle.std.proofs.lemmas.List.{get_or_default}
use Rattle.u_determinate.proofs.keeps.all_are.Goals as goal

pub returns-then-number-it : goal.returns-then-number-it
returns-then-number-it c =
    ((λ t. absurd (false≢true t)), λ f. absurd (c.if-number-it.true (f _ (c.loop-number.number-index, c.loop-number-test.true, get_or_default c.args.numbers.now c.loop-number.number-index _ _ c.loop-number-test.true))))

pub returns : goal.returns
returns c =
    ((λ t n m. sym m.2 ∙ get_or_default c.args.numbers.now m.0 n 0 m.1 ∙ c.loop-number.invariant m.0 (let w = m.1 in omega (arith, w, c.loop-number-test.false))), λ f. refl)
