use Rattle.std.proofs.Common.{◌∙◌, sym}
use Rattle.std.proofs.lemmas.Result.{IfOk-weaker}
use Rattle.u_trace.proofs.Lists.{get_below}
use Rattle.u_trace.proofs.finding.Given.giver.Goals as goal

pub at-requires : goal.at-requires
at-requires c =
    let p = c.requires.givers.giver c.args.entry.now c.in-Some.place (sym c.in_ok-found.ensures ∙ c.in-Some.is) in
    get_below c.args.self.now.firings.now c.in-Some.place p.firing p.at

pub unreachable-requires : goal.unreachable-requires
unreachable-requires c = c.requires.givers.none c.args.entry.now (sym c.in_ok-found.ensures ∙ c.in-None.is) c.requires.given.0 c.requires.given.1 c.requires.given.2

pub returns : goal.returns
returns c =
    let p = c.requires.givers.giver c.args.entry.now c.in-Some.place (sym c.in_ok-found.ensures ∙ c.in-Some.is) in
    IfOk-weaker c.at.result _ _ (λ f e. (c.in-Some.place, p, e)) c.at.ensures
