use Rattle.std.proofs.Common.{◌∙◌, List, subst, sym, rules}
use Rattle.std.specs.Prelude.{Contains, ◌↔◌}
use Rattle.u_rule.specs.Rule.{own_of}
use Rattle.u_rule.specs.declared.entry.Entry.{Entry}
use Rattle.u_rule.specs.declared.firing.Firing.{Firing}
use Rattle.u_sets.specs.Members.{SomeOf, Gains}
use Rattle.u_base.proofs.Member.{Contains-nil}
use Rattle.u_machine.proofs.Needed.{needs_some}
use Rattle.u_trace.specs.Causes.{IsKept, IsCause}
use Rattle.u_trace.specs.Sending.{matters}
use Rattle.u_trace.proofs.CauseLaws.{causes_none, causes_more, causes_passing, passing_more, passing_still, passing_all}
use Rattle.u_trace.proofs.SendLaws.{needs_matter}
use Rattle.u_trace.proofs.causing.causes_among.Goals as goal

pub loop-held-init : goal.loop-held-init
loop-held-init c = record {
  entered = λ x. ((λ m. absurd (Contains-nil x (subst (λ (xs : List Entry). Contains xs x) c.new-matcher.ensures m))), λ m. absurd (Contains-nil x m.0));
  rises = search rules;
  all = subst (λ (fs : List Firing). (f : Firing) → Contains fs f ↔ IsCause c.args.job.now c.new-matcher.result c.args.entry.now f) (sym c.new-found.ensures.items)
      (causes_none (own_of c.args.job.now) c.args.entry.now c.new-matcher.result (λ x m. Contains-nil x (subst (λ (xs : List Entry). Contains xs x) c.new-matcher.ensures m)) (λ f en. needs_some c.args.job.now f en.0));
}

pub keep_all-requires-clause-firings : goal.keep_all-requires-clause-firings
keep_all-requires-clause-firings c f m = ((c.in_ok-woken.ensures.exact f).0 (subst (λ (xs : List Firing). Contains xs f) c.deref.ensures.value m)).1.0

pub loop-held-preserved : goal.loop-held-preserved
loop-held-preserved c = record {
  entered = passing_more (matters c.args.job.now c.args.entry.now) c.args.entries.now c.loop-held.matcher c.enter.new.self c.loop-held.held-index c.held-item.result c.loop-held-test.true c.held-item.is c.loop-held.invariant.entered (sym c.matters.ensures ∙ c.if-not-matters.false) c.in_ok-woken.ensures.ok;
  rises = c.in_ok-keep_all.ensures.rises;
  all = causes_more (own_of c.args.job.now) c.args.entry.now c.loop-held.matcher c.enter.new.self c.held-item.result c.in_ok-woken.woken.items c.loop-held.found.items c.keep_all.new.found.items c.in_ok-woken.ensures.ok c.in_ok-woken.ensures.exact c.loop-held.invariant.all
      (subst (λ (xs : List Firing). Gains c.loop-held.found.items (SomeOf xs (IsKept c.args.job.now c.args.entry.now)) c.keep_all.new.found.items) c.deref.ensures.value c.in_ok-keep_all.ensures.ok);
}

pub loop-held-preserved-then-not-matters : goal.loop-held-preserved-then-not-matters
loop-held-preserved-then-not-matters c = record {
  entered = passing_still (matters c.args.job.now c.args.entry.now) c.args.entries.now c.loop-held.matcher c.loop-held.matcher c.loop-held.held-index c.held-item.result c.loop-held-test.true c.held-item.is c.loop-held.invariant.entered (sym c.matters.ensures ∙ c.if-not-matters.true);
  rises = c.loop-held.invariant.rises;
  all = c.loop-held.invariant.all;
}

pub returns : goal.returns
returns c = record {
  rises = c.loop-held.invariant.rises;
  exact = causes_passing (own_of c.args.job.now) c.args.entry.now (matters c.args.job.now c.args.entry.now) c.args.entries.now c.loop-held.matcher c.loop-held.found.items (needs_matter c.args.job.now c.args.entry.now) (passing_all (matters c.args.job.now c.args.entry.now) c.args.entries.now c.loop-held.matcher c.loop-held.held-index c.loop-held-test.false c.loop-held.invariant.entered) c.loop-held.invariant.all;
}
