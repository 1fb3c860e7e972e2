use Rattle.std.proofs.Common.{◌≡◌, ◌⊎◌, [], Contains}
use Rattle.u_rule.specs.declared.entry.Entry.{Entry}
use Rattle.u_rule.specs.declared.firing.Firing.{Firing}
use Rattle.u_sets.specs.Members.{SomeOf}
use Rattle.u_sets.proofs.Gathering.{scan_all}
use Rattle.u_match.specs.Waking.{IsWokenBy}
use Rattle.u_sets.proofs.Steps.{round, from_nothing}
use Rattle.u_match.proofs.Wakes.{among}
use Rattle.u_match.proofs.waking_reads.Entering.add_woken_of.Goals as goal

pub loop-firing-preserved : goal.loop-firing-preserved
loop-firing-preserved c = record {
  rises = c.in_ok-add_woken.ensures.rises;
  all = round (λ (g : Firing) (h : Firing). (g ≡ h) × IsWokenBy c.args.self.now.job.now c.args.self.now.entry.now (λ (x : Entry). Contains c.args.self.now.entries.now.entries x ⊎ (c.args.self.now.entry.now ≡ x)) h) [] c.loop-firing.found.items c.add_woken.new.found.items c.args.firings.now c.loop-firing.firing-index c.firing-item.result c.loop-firing-test.true c.firing-item.is c.loop-firing.invariant.all c.in_ok-add_woken.ensures.ok;
}

pub returns-clause-exact : goal.returns-clause-exact
returns-clause-exact c f =
    let woken : Firing → Type 0 = IsWokenBy c.args.self.now.job.now c.args.self.now.entry.now (λ (x : Entry). Contains c.args.self.now.entries.now.entries x ⊎ (c.args.self.now.entry.now ≡ x)) in
    let all = from_nothing (SomeOf c.args.firings.now (λ (g : Firing) (h : Firing). (g ≡ h) × woken h)) c.loop-firing.found.items (scan_all (λ (g : Firing) (h : Firing). (g ≡ h) × woken h) [] c.args.firings.now c.loop-firing.firing-index c.loop-firing.found.items c.loop-firing-test.false c.loop-firing.invariant.all) f in
    let few = among woken c.args.firings.now f in
    ((λ m. few.0 (all.0 m)), λ p. all.1 (few.1 p))
