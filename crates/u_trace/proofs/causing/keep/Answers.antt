use Rattle.std.proofs.Common.{◌≡◌, ◌∙◌, sym, Contains}
use Rattle.std.proofs.lemmas.Bool.{false≢true}
use Rattle.u_rule.specs.Rule.{own_of}
use Rattle.u_rule.specs.declared.firing.Firing.{Firing}
use Rattle.u_sets.proofs.Steps.{nothing}
use Rattle.u_match.proofs.Steps.{same_firing}
use Rattle.u_match.proofs.Wakes.{added, left_out}
use Rattle.u_trace.proofs.causing.keep.Goals as goal

pub returns-then-not-given-clause-ok : goal.returns-then-not-given-clause-ok
returns-then-not-given-clause-ok c =
    let gives : Firing → Type 0 = λ (f : Firing). Contains ((own_of c.args.job.now).gives f) c.args.entry.now in
    nothing (λ (f : Firing). (c.args.firing.now ≡ f) × gives f) c.args.found.now.items
    (left_out gives c.args.firing.now (λ w. false≢true (sym c.if-not-given.true ∙ c.in_ok-given.ensures.1 w)))

pub returns-clause-ok : goal.returns-clause-ok
returns-clause-ok c =
    let gives : Firing → Type 0 = λ (f : Firing). Contains ((own_of c.args.job.now).gives f) c.args.entry.now in
    added gives c.args.firing.now c.args.found.now.items c.place_in.new.list.items (c.in_ok-given.ensures.0 c.if-not-given.false)
    (same_firing c.in_ok-copy.copy c.args.firing.now c.args.found.now.items c.place_in.new.list.items c.in_ok-copy.ensures c.in_ok-place_in.ensures.ok)
