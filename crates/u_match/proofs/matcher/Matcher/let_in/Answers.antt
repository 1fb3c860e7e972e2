use Rattle.std.proofs.Common.{◌∙◌, inr, refl, subst, List}
use Rattle.std.specs.Prelude.{Contains}
use Rattle.u_rule.specs.declared.entry.Entry.{Entry}
use Rattle.u_sets.specs.Members.{IsWith}
use Rattle.u_match.proofs.Wakes.{woken_over}
use Rattle.u_match.proofs.Numbered.{numbers}
use Rattle.u_match.proofs.matcher.Matcher.let_in.Goals as goal

pub firings-requires-clause-number : goal.firings-requires-clause-number
firings-requires-clause-number c = numbers c.number_of.new.history.names c.args.entry.now c.in_ok-number.number c.in_ok-number.ensures.number

pub returns-then-not-added : goal.returns-then-not-added
returns-then-not-added c =
    let f = c.if-not-added.true in
    let is = c.number_of.ensures.same ∙ c.numbered_mut-history.ensures.entries ∙ c.self.view_is in
    let still = c.in_ok-added.ensures.still (λ t. absurd (cc)) ∙ is in
    (subst (λ (es : List Entry). Contains es c.args.entry.now) still ((c.in_ok-added.ensures.ok c.args.entry.now).1 (inr refl)), still)

pub returns : goal.returns
returns c =
    let t = c.if-not-added.false in
    let is = c.number_of.ensures.same ∙ c.numbered_mut-history.ensures.entries ∙ c.self.view_is in (
      subst (λ (es : List Entry). Contains es c.args.entry.now → ⊥) is (c.in_ok-added.ensures.new.0 (cc)),
      subst (λ (es : List Entry). IsWith es c.args.entry.now c.admit.new.history.entries) is c.in_ok-added.ensures.ok,
      woken_over c.args.job.now c.args.entry.now c.number_of.new.history.entries c.admit.new.history.entries c.firings.new.found.items c.in_ok-added.ensures.ok c.in_ok-firings.ensures.exact,
      c.in_ok-firings.ensures.rises,
    )
