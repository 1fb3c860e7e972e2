use Rattle.std.proofs.Common.{◌≡◌, ◌↔◌, take, ◌⊎◌, []}
use Rattle.std.specs.Prelude.{Contains}
use Rattle.u_rule.specs.declared.entry.Entry.{Entry}
use Rattle.u_rule.specs.declared.firing.Firing.{Firing}
use Rattle.u_rule.specs.EntryOrder.{firing_cmp}
use Rattle.u_sets.specs.Members.{SomeOf}
use Rattle.u_sets.specs.Rising.{Rises}
use Rattle.u_match.specs.Waking.{IsWokenBy}
use Rattle.u_match.proofs.waking_reads.Entering.add_woken_of.Given as goal

abbrev pub invariant-loop-firing : goal.invariant-loop-firing
invariant-loop-firing l = record {
  rises : Rises firing_cmp l.found.items;
  all : (f : Firing) → Contains l.found.items f ↔ (Contains [] f ⊎ SomeOf (take l.firing-index l.firings) (λ (g : Firing) (h : Firing). (g ≡ h) × IsWokenBy l.self.job.now l.self.entry.now (λ (x : Entry). Contains l.self.entries.now.entries x ⊎ (l.self.entry.now ≡ x)) h) f);
}
