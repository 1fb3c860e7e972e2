use Rattle.std.proofs.Common.{◌∙◌, sym, subst, List}
use Rattle.u_rule.specs.declared.entry.Entry.{Entry}
use Rattle.u_sets.specs.Members.{IsWith}
use Rattle.u_match.proofs.Wakes.{woken_over, with_known}
use Rattle.u_match.proofs.matcher.Matcher.woken_by.Goals as goal

pub returns-clause-exact : goal.returns-clause-exact
returns-clause-exact c =
    let is = c.numbered-history.ensures ∙ c.self.view_is in
    let known = subst (λ (es : List Entry). IsWith es c.args.entry.now c.args.self.now) (sym is) (with_known c.args.entry.now c.args.self.now c.requires) in
    woken_over c.args.job.now c.args.entry.now c.numbered-history.result.now.entries c.args.self.now c.firings.new.found.items known c.in_ok-firings.ensures.exact
