use Rattle.std.proofs.Common.{take, ◌⊎◌}
use Rattle.std.specs.Prelude.{Contains}
use Rattle.u_rule.specs.declared.firing.Firing.{Firing}
use Rattle.u_sets.specs.Rising.{Rises}
use Rattle.u_rule.specs.EntryOrder.{firing_cmp}
use Rattle.u_plain.proofs.ready.not_among.Given as goal

abbrev pub invariant-loop-firing : goal.invariant-loop-firing
invariant-loop-firing l = record {
  exact : (f : Firing) → Contains l.rest.items f → Contains (take l.firing-index l.found) f × (Contains l.taken f → ⊥);
  all : (f : Firing) → Contains (take l.firing-index l.found) f → Contains l.rest.items f ⊎ Contains l.taken f;
  rises : Rises firing_cmp l.rest.items;
}
