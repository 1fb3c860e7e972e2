use Rattle.std.proofs.Common.{◌∙◌, subst, List}
use Rattle.u_rule.specs.declared.entry.Entry.{Entry}
use Rattle.u_sets.specs.Members.{IsWith}
use Rattle.u_match.proofs.matcher.Matcher.enter_alone.Goals as goal

pub returns-clause-ok : goal.returns-clause-ok
returns-clause-ok c =
    let is = c.number_of.ensures.same ∙ c.numbered_mut-history.ensures.entries ∙ c.self.view_is in
    subst (λ (es : List Entry). IsWith es c.args.entry.now c.admit.new.history.entries) is c.in_ok-admit.ensures.ok
