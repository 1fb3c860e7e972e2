use Rattle.std.proofs.Common.{ℕ, arith, sym, subst}
use Rattle.u_check.specs.Rules.{Breaches, IsFirstBreach}
use Rattle.u_check.specs.declared.rule.Rule.{Rule}
use Rattle.u_check.proofs.Order.{place_below, one_more, before_rule}
use Rattle.u_check.proofs.checker.first_breach.Goals as goal

pub returns-in-Some-clause-first : goal.returns-in-Some-clause-first
returns-in-Some-clause-first c =
    let k = c.in-Some.ensures in
    subst (λ (r : Rule). IsFirstBreach c.args.blocks.now r c.in-Some.breach.block c.in-Some.breach.statement) (sym k.rule) (record { here = k.first; first_rule = λ r b s w h. c.loop-rule.invariant r b s (before_rule c.loop-rule.rule-index r c.loop-rule-test.true h) w })

pub loop-rule-preserved : goal.loop-rule-preserved
loop-rule-preserved c = λ r b s h w.
    one_more (λ (q : Rule). (m n : ℕ) → Breaches c.args.blocks.now q m n → ⊥) c.loop-rule.rule-index c.loop-rule-test.true (λ q lt m n v. c.loop-rule.invariant q m n lt v) c.in_default.ensures.none r h b s w

pub returns-clause-none : goal.returns-clause-none
returns-clause-none c = record { keeps_all = λ r b s w. c.loop-rule.invariant r b s (let p = place_below r in omega arith) w }
