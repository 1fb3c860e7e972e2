use Rattle.std.proofs.Common.{take, ◌↔◌}
use Rattle.std.specs.Prelude.{Contains}
use Rattle.u_rule.specs.EntryOrder.{firing_cmp}
use Rattle.u_rule.specs.declared.firing.Firing.{Firing}
use Rattle.u_sets.specs.Rising.{Rises}
use Rattle.u_trace.specs.Causes.{IsCause}
use Rattle.u_trace.specs.Sending.{matters}
use Rattle.u_trace.proofs.CauseLaws.{HasPassing}
use Rattle.u_trace.proofs.causing.causes_among.Given as goal

abbrev pub invariant-loop-held : goal.invariant-loop-held
invariant-loop-held l = record {
  entered : HasPassing (matters l.job l.entry) (take l.held-index l.entries) l.matcher;
  rises : Rises firing_cmp l.found.items;
  all : (f : Firing) → Contains l.found.items f ↔ IsCause l.job l.matcher l.entry f;
}
