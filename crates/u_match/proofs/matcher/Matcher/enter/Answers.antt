use Rattle.std.proofs.Common.{◌∙◌, subst, List}
use Rattle.u_rule.specs.declared.entry.Entry.{Entry}
use Rattle.u_sets.specs.Members.{IsWith}
use Rattle.u_match.proofs.Wakes.{woken_over}
use Rattle.u_match.proofs.Numbered.{numbers}
use Rattle.u_match.proofs.matcher.Matcher.enter.Goals as goal

pub firings-requires-clause-number : goal.firings-requires-clause-number
firings-requires-clause-number c = numbers c.number_of.new.history.names c.args.entry.now c.in_ok-number.number c.in_ok-number.ensures.number

pub returns-clause-exact : goal.returns-clause-exact
returns-clause-exact c = woken_over c.args.job.now c.args.entry.now c.number_of.new.history.entries c.admit.new.history.entries c.firings.new.found.items c.in_ok-admit.ensures.ok c.in_ok-firings.ensures.exact

pub returns-clause-ok : goal.returns-clause-ok
returns-clause-ok c =
    let is = c.number_of.ensures.same ∙ c.numbered_mut-history.ensures.entries ∙ c.self.view_is in
    subst (λ (es : List Entry). IsWith es c.args.entry.now c.admit.new.history.entries) is c.in_ok-admit.ensures.ok
