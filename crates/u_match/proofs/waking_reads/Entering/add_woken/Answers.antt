use Rattle.std.proofs.Common.{◌≡◌, ◌⊎◌, ◌∙◌, sym, Contains}
use Rattle.std.proofs.lemmas.Bool.{false≢true}
use Rattle.u_rule.specs.declared.entry.Entry.{Entry}
use Rattle.u_rule.specs.declared.firing.Firing.{Firing}
use Rattle.u_match.specs.Waking.{IsWokenBy}
use Rattle.u_sets.proofs.Steps.{nothing}
use Rattle.u_match.proofs.Steps.{same_firing}
use Rattle.u_match.proofs.Wakes.{added, left_out}
use Rattle.u_match.proofs.waking_reads.Entering.add_woken.Goals as goal

pub returns-then-not-woken-clause-ok : goal.returns-then-not-woken-clause-ok
returns-then-not-woken-clause-ok c =
    let woken : Firing → Type 0 = IsWokenBy c.args.self.now.job.now c.args.self.now.entry.now (λ (x : Entry). Contains c.args.self.now.entries.now.entries x ⊎ (c.args.self.now.entry.now ≡ x)) in
    nothing (λ (f : Firing). (c.args.firing.now ≡ f) × woken f) c.args.found.now.items
    (left_out woken c.args.firing.now (λ w. false≢true (sym c.if-not-woken.true ∙ c.in_ok-woken.ensures.1 w)))

pub returns-clause-ok : goal.returns-clause-ok
returns-clause-ok c =
    let woken : Firing → Type 0 = IsWokenBy c.args.self.now.job.now c.args.self.now.entry.now (λ (x : Entry). Contains c.args.self.now.entries.now.entries x ⊎ (c.args.self.now.entry.now ≡ x)) in
    added woken c.args.firing.now c.args.found.now.items c.place_in.new.list.items (c.in_ok-woken.ensures.0 c.if-not-woken.false)
    (same_firing c.in_ok-copy.copy c.args.firing.now c.args.found.now.items c.place_in.new.list.items c.in_ok-copy.ensures c.in_ok-place_in.ensures.ok)
