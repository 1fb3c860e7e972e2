use Rattle.std.proofs.Common.{◌≡◌, ℕ, refl, arith, Option, subst}
use Rattle.u_determinate.specs.Breaches.{IsFirstIn, IsFirst}
use Rattle.u_determinate.specs.declared.answer.Strictness.TheVariants.{Strict, Loose}
use Rattle.u_determinate.proofs.Breaches.{KeptRules, next_rule, first_of_all, strict, answer_exact, rule_in}
use Rattle.u_determinate.proofs.first.strictness_of.Goals as goal

pub loop-rule-init : goal.loop-rule-init
loop-rule-init c = λ r h. absurd (omega (arith, h))

pub loop-rule-preserved : goal.loop-rule-preserved
loop-rule-preserved c =
    let p = c.args.blocks.now in
    let i = c.loop-rule.rule-index in
    next_rule p i c.loop-rule-test.true c.loop-rule.invariant (subst (λ (o : Option (ℕ × ℕ)). IsFirstIn p (rule_in i) o) c.in_default.is c.in_ok-block.ensures)

pub returns-clause-answer : goal.returns-clause-answer
returns-clause-answer c =
    let e : c.loop-rule.rule-index ≡ 4 = omega arith in
    strict c.args.blocks.now (subst (λ (i : ℕ). KeptRules c.args.blocks.now i) e c.loop-rule.invariant)

pub returns-clause-exact : goal.returns-clause-exact
returns-clause-exact c =
    let e : c.loop-rule.rule-index ≡ 4 = omega arith in
    answer_exact c.args.blocks.now Strict (strict c.args.blocks.now (subst (λ (i : ℕ). KeptRules c.args.blocks.now i) e c.loop-rule.invariant))

pub returns-in-Some-clause-answer : goal.returns-in-Some-clause-answer
returns-in-Some-clause-answer c =
    let p = c.args.blocks.now in
    let i = c.loop-rule.rule-index in
    let first : IsFirst p (rule_in i) c.in-Some.block c.in-Some.at = first_of_all p i (rule_in i) c.in-Some.block c.in-Some.at c.loop-rule-test.true refl c.loop-rule.invariant (subst (λ (o : Option (ℕ × ℕ)). IsFirstIn p (rule_in i) o) c.in-Some.is c.in_ok-block.ensures) in
    first

pub returns-in-Some-clause-exact : goal.returns-in-Some-clause-exact
returns-in-Some-clause-exact c =
    let p = c.args.blocks.now in
    let i = c.loop-rule.rule-index in
    let first : IsFirst p (rule_in i) c.in-Some.block c.in-Some.at = first_of_all p i (rule_in i) c.in-Some.block c.in-Some.at c.loop-rule-test.true refl c.loop-rule.invariant (subst (λ (o : Option (ℕ × ℕ)). IsFirstIn p (rule_in i) o) c.in-Some.is c.in_ok-block.ensures) in
    answer_exact p (Loose (rule_in i) c.in-Some.block c.in-Some.at) first
