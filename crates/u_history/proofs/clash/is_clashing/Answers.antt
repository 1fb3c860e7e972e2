use Rattle.std.proofs.Common.{inl, inr, refl}
use Rattle.u_history.specs.Outcomes.{lent}
use Rattle.u_history.proofs.Neighbours.{clash_if, clash_only}
use Rattle.u_history.proofs.Gathered.{lent_below, lent_after}
use Rattle.u_history.proofs.clash.is_clashing.Goals as goal

pub returns-then-before : goal.returns-then-before
returns-then-before c d =
    ((λ _. clash_if (lent c.args.entries.now) c.args.index d c.requires.rises (lent_below c.args.entries.now c.args.index c.requires.index) _ _ (c.joins_before-before.ensures d) (lent_after c.args.entries.now c.args.index _ _ (c.joins_after-after.ensures d)) (inl c.if-before.true)), λ _. refl)

pub returns : goal.returns
returns c d = (
  (λ t. clash_if (lent c.args.entries.now) c.args.index d c.requires.rises (lent_below c.args.entries.now c.args.index c.requires.index) _ _ (c.joins_before-before.ensures d) (lent_after c.args.entries.now c.args.index _ _ (c.joins_after-after.ensures d)) (inr t)),
  λ k. elim (clash_only (lent c.args.entries.now) c.args.index d c.requires.rises (lent_below c.args.entries.now c.args.index c.requires.index) _ _ (c.joins_before-before.ensures d) (lent_after c.args.entries.now c.args.index _ _ (c.joins_after-after.ensures d)) k) [ inl t ↦ absurd (let z = c.if-before.false in cc) | inr t ↦ t ],
)
