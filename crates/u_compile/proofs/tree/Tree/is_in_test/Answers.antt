use Rattle.std.proofs.Common.{ℕ, refl, sym, ◌∙◌, subst}
use Rattle.u_compile.specs.Trees.{IsParent, StandsInTest, below, further}
use Rattle.u_compile.proofs.TreeLaws.{test_above}
use Rattle.u_compile.proofs.tree.Tree.is_in_test.Goals as goal

pub returns-then-at-whole : goal.returns-then-at-whole
returns-then-at-whole c =
    let t = c.args.self.now in
    let up : IsParent t c.args.whole c.upwards.at = subst (λ (n : ℕ). IsParent t n c.upwards.at) c.if-at-whole.true c.in_ok-at.ensures in
    let is : StandsInTest t c.args.whole c.upwards.at = below c.upwards.at up in
    (λ e. c.upwards.invariant.0 is, λ h. refl)

pub upwards-preserved : goal.upwards-preserved
upwards-preserved c = (
  λ h. c.upwards.invariant.0 (further c.upwards.at c.in_ok-at.at c.in_ok-form.field-0 c.in_ok-at.ensures c.in_ok-form.ensures (sym c.is_apart.ensures ∙ c.if-is_apart.false) h),
  λ h. (test_above c.args.self.now c.args.whole c.upwards.at c.in_ok-at.at c.in_ok-at.ensures c.if-at-whole.false (c.upwards.invariant.1 h)).3,
)
