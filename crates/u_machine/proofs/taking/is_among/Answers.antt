use Rattle.std.proofs.Common.{◌≡◌, refl, subst, Contains}
use Rattle.u_rule.specs.declared.firing.Firing.{Firing}
use Rattle.u_sets.proofs.Rounds.{each_more, each_of_all, member_at}
use Rattle.u_machine.proofs.Settled.{not_both}
use Rattle.u_machine.proofs.taking.is_among.Goals as goal

pub returns-then-is_same : goal.returns-then-is_same
returns-then-is_same c = (
  (λ t. subst (λ (f : Firing). Contains c.args.firings.now f) (c.is_same.ensures.0 c.if-is_same.true) (member_at c.args.firings.now c.loop-other.other-index c.other-item.result c.loop-other-test.true c.other-item.is)),
  λ m. refl,
)

pub loop-other-preserved : goal.loop-other-preserved
loop-other-preserved c =
    each_more (λ (f : Firing). f ≡ c.args.firing.now → ⊥) c.args.firings.now c.loop-other.other-index c.other-item.result c.loop-other-test.true c.other-item.is (λ e. not_both c.is_same.result (c.is_same.ensures.1 e) c.if-is_same.false) c.loop-other.invariant

pub returns : goal.returns
returns c = (
  (λ t. absurd (cc)),
  λ m. absurd (each_of_all (λ (f : Firing). f ≡ c.args.firing.now → ⊥) c.args.firings.now c.loop-other.other-index c.loop-other-test.false c.loop-other.invariant c.args.firing.now m refl),
)
