use Rattle.std.proofs.Common.{◌↔◌, ◌∙◌, Contains, subst, sym}
use Rattle.u_rule.specs.Rule.{own_of}
use Rattle.u_rule.specs.EntryOrder.{EntryList, FiringList}
use Rattle.u_rule.specs.declared.firing.Firing.{Firing}
use Rattle.u_base.specs.Firing.{Enabled}
use Rattle.u_plain.proofs.ready.ready_firings.Goals as goal
use Rattle.u_plain.proofs.ready.ready_firings.Goals.{In_ok-ready}

enabled : (c : In_ok-ready) (f : Firing) → Contains c.deref-2.result.now f ↔ Enabled (own_of c.args.job.now) (Contains c.args.history.now) f
enabled c f =
    subst (λ (fs : FiringList). Contains fs f ↔ Enabled (own_of c.args.job.now) (Contains c.args.history.now) f) (sym c.deref-2.ensures.value)
    (subst (λ (es : EntryList). Contains c.in_ok-found.found.items f ↔ Enabled (own_of c.args.job.now) (Contains es) f) (c.deref.ensures.value ∙ c.in_ok-entries.ensures.all) (c.in_ok-found.ensures f))

pub returns-clause-exact : goal.returns-clause-exact
returns-clause-exact c f m =
    let a = (goal.at.returns-clause-exact c).In_ok-ready in
    let p = c.in_ok-ready.ensures.exact f m in
    ((enabled a f).0 p.0, p.1)

pub returns-clause-all : goal.returns-clause-all
returns-clause-all c f en =
    let a = (goal.at.returns-clause-all c).In_ok-ready in
    c.in_ok-ready.ensures.all f ((enabled a f).1 en)
